pub mod Finds
pub mod Depends
