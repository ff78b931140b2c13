pub mod Alike
pub mod CellBounds
pub mod FillLaws
pub mod FinishLaws
pub mod SideLaws
pub mod CellSources
pub mod CellColumns
