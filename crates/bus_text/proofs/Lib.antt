pub mod ReportLaws
pub mod FrameBus
pub mod Calls
