pub mod KindLaws
pub mod FeedLaws
pub mod ByRecords
pub mod Invariants
pub mod FirstEdition
