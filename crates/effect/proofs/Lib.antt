pub mod Alone
pub mod EffectLaws
pub mod FromStart
