pub mod Counts
pub mod Steps
pub mod Verdicts
pub mod StartKept
pub mod Mended
pub mod Cases
