pub mod RowLatchLaws
pub mod LatchLaws
