pub mod ChangeLaws
pub mod Calls
