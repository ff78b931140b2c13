pub mod Refuses
pub mod Told
pub mod ToldListed
pub mod Examples
pub mod ToldTexts
pub mod ToldOthers
pub mod ExamplesOthers
