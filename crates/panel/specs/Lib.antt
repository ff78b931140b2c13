pub mod Answers
pub mod Line
pub mod Lines
pub mod Shown
