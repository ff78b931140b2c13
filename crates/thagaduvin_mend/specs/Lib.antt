pub mod MendCalls
pub mod MendLoop
