pub mod Walk
pub mod Below
pub mod Converter
pub mod Conversions
pub mod Cases
