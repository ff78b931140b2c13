mod StartLaws
pub mod StartBound
