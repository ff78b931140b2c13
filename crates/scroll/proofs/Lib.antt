mod SignedLaws
mod ShiftLaws
pub mod ShiftBound
pub mod Rates
pub mod Scrolls
