pub mod Holds
pub mod CellsHold
