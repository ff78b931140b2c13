pub mod RowBound
pub mod RowAlike
pub mod RowLaws
pub mod RowWindow
