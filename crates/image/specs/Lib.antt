pub mod Registers
pub mod Image
pub mod Feeding
pub mod Ranges
pub mod Written
pub mod ToCome
pub mod Cases
