pub mod AnswerNumbers
pub mod AfterCall
pub mod Changing
