pub mod StepLaws
pub mod Frames
pub mod Calls
pub mod HandedOn
pub mod Windows
