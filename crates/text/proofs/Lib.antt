pub mod GoodLaws
pub mod TextLaws
pub mod Calls
