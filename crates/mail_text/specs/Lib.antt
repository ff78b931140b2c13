pub mod MailText
pub mod ToCome
