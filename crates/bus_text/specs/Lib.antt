pub mod BusLines
pub mod FrameReport
pub mod ToCome
