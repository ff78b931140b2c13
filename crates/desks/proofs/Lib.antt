pub mod ReadLaws
pub mod Same
pub mod Depends
pub mod Writes
