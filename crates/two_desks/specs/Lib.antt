pub mod DeskCalls
pub mod Desks
pub mod Again
