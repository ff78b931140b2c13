pub mod Turned
pub mod Converted
pub mod Calls
