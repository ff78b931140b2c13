pub mod CodeBounds
pub mod CodeLaws
pub mod CellParts
pub mod CodeCells
