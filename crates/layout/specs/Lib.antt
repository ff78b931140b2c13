pub mod Layout
pub mod Overlay
pub mod Answers
