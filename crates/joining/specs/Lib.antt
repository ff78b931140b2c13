pub mod Join
pub mod Grouping
