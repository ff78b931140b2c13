pub mod Word
pub mod Reading
pub mod Address
pub mod Answers
