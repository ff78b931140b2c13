pub mod BusLaws
pub mod NumberLaws
pub mod Reports
