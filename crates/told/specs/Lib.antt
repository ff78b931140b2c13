pub mod Told
pub mod Example
