pub mod Marked
pub mod OutputS
pub mod Invoking
