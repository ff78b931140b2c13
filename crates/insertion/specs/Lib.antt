pub mod Followed
pub mod Insertion
pub mod Tests
