-- The calls of a console on effects of rows. Status 0 is an accepted call, 255 one whose slices have the wrong length or a number that no
-- field can have; others are the refusals' numbers.
use Rattle.std.specs.Prelude.{ℕ, List, length, eqb, Option, Some, None}
use Rattle.memory.specs.Word.{when◌then◌else◌}
use Rattle.settings.specs.declared.Settings.{Settings}
use Rattle.state.specs.declared.State.{State}
use Rattle.joining.specs.declared.Effect.{Effect}
use Rattle.effect.specs.Effect.{effect_call}
use Rattle.joining.specs.Join.{join, apply}
use Rattle.numbers.specs.Decode.{settings_in, state_in}
use Rattle.answers.specs.AfterCall.{Answered, answered, Stated, stated}
use Rattle.effects.specs.EffectNumbers.{effect_in, effect_numbers}
use Rattle.effects.specs.AfterEffect.{after_effect, after_apply}

-- the effect of a row
abbrev pub effect_from : Settings → List ℕ → List ℕ → List ℕ → Option State → Stated
effect_from σ m state effect (Some s) = after_effect s.latch state (effect_call σ m s.fields)
effect_from σ m state effect None = stated 255 state effect

abbrev pub effect_with : List ℕ → List ℕ → List ℕ → Option Settings → Stated
effect_with m state effect (Some σ) = effect_from σ m state effect (state_in state)
effect_with m state effect None = stated 255 state effect

unfoldable pub host_effect : List ℕ → List ℕ → List ℕ → List ℕ → Stated
host_effect settings m state effect =
    when eqb (length effect) 12 then effect_with m state effect (settings_in settings) else stated 255 state effect

-- two effects joined
abbrev pub join_from : List ℕ → Effect → Option Effect → Answered
join_from joined d (Some e) = answered 0 (effect_numbers (join d e))
join_from joined d None = answered 255 joined

abbrev pub join_with : List ℕ → List ℕ → Option Effect → Answered
join_with second joined (Some d) = join_from joined d (effect_in second)
join_with second joined None = answered 255 joined

unfoldable pub host_join : List ℕ → List ℕ → List ℕ → Answered
host_join first second joined =
    when eqb (length joined) 12 then join_with second joined (effect_in first) else answered 255 joined

-- an effect applied to a latch
abbrev pub apply_from : ℕ → List ℕ → Option Effect → Answered
apply_from latch answer (Some e) = after_apply answer (apply e latch)
apply_from latch answer None = answered 255 answer

unfoldable pub host_apply : List ℕ → ℕ → List ℕ → Answered
host_apply effect latch answer =
    when eqb (length answer) 4 then apply_from latch answer (effect_in effect) else answered 255 answer
