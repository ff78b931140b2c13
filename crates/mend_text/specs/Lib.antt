pub mod MendText
pub mod NextChange
