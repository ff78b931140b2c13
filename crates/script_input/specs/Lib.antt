pub mod Input
pub mod Reader
