pub mod NotingLaws
pub mod PlaceLaws
pub mod PlainLaws
pub mod WordLaws
