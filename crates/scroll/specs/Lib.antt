pub mod Rate
pub mod Scroll
pub mod Answers
