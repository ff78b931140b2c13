pub mod Answers
pub mod Attribute
pub mod Codes
