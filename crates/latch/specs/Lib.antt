pub mod Latch
