pub mod RowsLaws
pub mod VerdictLaws
pub mod Comes
pub mod Standing
pub mod BlocksStand
pub mod CellsStand
pub mod RowStands
pub mod Frames
