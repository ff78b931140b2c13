pub mod AfterMail
