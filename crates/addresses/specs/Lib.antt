pub mod Addresses
pub mod Listed
