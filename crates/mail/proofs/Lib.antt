pub mod TextLaws
pub mod WriteLaws
pub mod Below
pub mod CellLaws
pub mod Longest
