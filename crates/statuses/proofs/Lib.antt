pub mod Tables
pub mod Read
pub mod Theorem
