pub mod Lines
pub mod RefusalLines
pub mod Pieces
