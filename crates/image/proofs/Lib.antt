pub mod PieceLaws
pub mod FeedLaws
pub mod Reading
pub mod Invariants
pub mod Fields
pub mod Ranged
pub mod Leads
pub mod Again
