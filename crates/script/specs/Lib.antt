pub mod Records
pub mod Script
pub mod Feeding
pub mod SheetS
