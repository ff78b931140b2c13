pub mod Calls
pub mod MailCalls
pub mod BusCalls
pub mod WriterCalls
