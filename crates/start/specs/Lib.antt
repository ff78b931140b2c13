pub mod Top
pub mod Start
pub mod Answers
