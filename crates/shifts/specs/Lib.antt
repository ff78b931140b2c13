pub mod AfterShift
