pub mod Small
pub mod Blocks
pub mod Cells
pub mod Rows
pub mod States
pub mod Effects
pub mod Scrolls
pub mod Theorem
