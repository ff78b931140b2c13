pub mod Tells
pub mod Pointers
pub mod Blocks
pub mod Cells
pub mod Rows
pub mod Theorem
pub mod Example
