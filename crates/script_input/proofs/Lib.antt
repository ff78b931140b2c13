pub mod InputLaws
pub mod Printing
