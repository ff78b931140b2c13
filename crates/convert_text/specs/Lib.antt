pub mod Registers
pub mod ConvertText
pub mod ToCome
