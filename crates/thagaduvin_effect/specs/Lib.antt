pub mod EffectCalls
