pub mod LineNumbers
pub mod Narrow
