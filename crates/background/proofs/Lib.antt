pub mod BackgroundLaws
pub mod BackgroundBounds
