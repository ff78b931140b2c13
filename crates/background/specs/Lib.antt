pub mod Background
pub mod Answers
