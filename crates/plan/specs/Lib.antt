pub mod Plan
pub mod Answers
