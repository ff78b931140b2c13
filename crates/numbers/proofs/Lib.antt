pub mod PlaceLaws
pub mod Again
pub mod Judged
