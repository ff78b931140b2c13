pub mod Again
pub mod Count
