pub mod EffectNumbers
pub mod AfterEffect
