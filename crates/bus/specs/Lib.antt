pub mod Bus
pub mod Rows
pub mod Numbers
