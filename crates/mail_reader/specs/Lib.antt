pub mod Reader
pub mod Read
pub mod Answers
