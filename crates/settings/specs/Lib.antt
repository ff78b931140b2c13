pub mod Good
pub mod Timing
pub mod Sheet
pub mod AfterEnable
pub mod Answers
