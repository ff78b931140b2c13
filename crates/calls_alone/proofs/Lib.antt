pub mod Slices
pub mod AloneCalls
