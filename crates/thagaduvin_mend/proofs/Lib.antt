pub mod Again
pub mod Loops
