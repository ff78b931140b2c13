pub mod CallLaws
pub mod Apart
pub mod Example
pub mod Again
