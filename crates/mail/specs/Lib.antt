pub mod Mail
pub mod Write
pub mod Answers
pub mod Texts
