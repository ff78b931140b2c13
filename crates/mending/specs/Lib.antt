pub mod Mending
pub mod Answers
pub mod Mendings
pub mod Cases
