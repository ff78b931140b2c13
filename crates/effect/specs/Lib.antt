pub mod Effect
pub mod Demand
pub mod Answers
