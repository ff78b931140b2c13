pub mod EffectAgain
