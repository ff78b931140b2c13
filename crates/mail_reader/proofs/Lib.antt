pub mod CommonLaws
pub mod ReaderLaws
