pub mod PlaceLaws
pub mod CellLaws
pub mod FollowLaws
pub mod BackgroundLaws
pub mod StretchLaws
