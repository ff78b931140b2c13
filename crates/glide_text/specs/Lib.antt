pub mod FrameText
pub mod GlideText
pub mod Example
pub mod ToCome
