pub mod Places
pub mod Decode
pub mod Encode
