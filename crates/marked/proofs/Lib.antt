pub mod Invoking
