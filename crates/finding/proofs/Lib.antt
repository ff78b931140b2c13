pub mod WalkLaws
pub mod PlaceLaws
