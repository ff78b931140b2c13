-- What the calls on effects leave in the slices of numbers that they were lent, and their status, as in AfterCall.
use Rattle.std.specs.Prelude.{ℕ, List, Option, Some, None, Result, Ok, Err}
use Rattle.memory.specs.declared.Refusal.{Refusal}
use Rattle.state.specs.State.{state_of}
use Rattle.state.specs.declared.Fields.{Fields}
use Rattle.effect.specs.declared.EffectAnswer.{EffectAnswer}
use Rattle.numbers.specs.Encode.{state_numbers}
use Rattle.answers.specs.AnswerNumbers.{one_number, with_refusal}
use Rattle.answers.specs.AfterCall.{Answered, answered, Stated, stated}
use Rattle.effects.specs.EffectNumbers.{effect_numbers}

-- The effect of a row. "unless both parts refuse, comes with the next state's other fields": the latch stays, and the state where
-- both refuse. `stated` has the status, the state and the effect.
abbrev pub stepped : ℕ → List ℕ → Option Fields → List ℕ
stepped latch state (Some f) = state_numbers (state_of latch f)
stepped latch state None = state

abbrev pub after_effect : ℕ → List ℕ → EffectAnswer → Stated
after_effect latch state x = stated 0 (stepped latch state x.next) (effect_numbers x.effect)

-- an effect applied to a latch
abbrev pub after_apply : List ℕ → Result ℕ Refusal → Answered
after_apply answer (Ok l) = answered 0 (one_number l)
after_apply answer (Err r) = answered r.number (with_refusal r answer)
