pub mod Blame
pub mod Answers
