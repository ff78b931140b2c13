pub mod GoodLaws
pub mod CodeLaws
pub mod FieldSum
pub mod FieldEnds
pub mod CheckLaws
pub mod InterlaceLaws
