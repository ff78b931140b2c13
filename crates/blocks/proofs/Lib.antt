pub mod BlockLaws
pub mod BlockBounds
