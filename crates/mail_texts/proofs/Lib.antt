pub mod Unique
pub mod SharedLaws
pub mod NextLaws
pub mod Rows
pub mod Back
pub mod Texts
pub mod Theorems
