pub mod Main
pub mod RowBlock
pub mod Answers
