-- Document 01: the effect of a row, and the effect call.
use Rattle.std.specs.Prelude.{ℕ, Bool, true, false, List, Option, Some, None}
use Rattle.memory.specs.Word.{when◌then◌else◌}
use Rattle.memory.specs.Reading.{Outcome, given, refused, refusal, run}
use Rattle.settings.specs.declared.Settings.{Settings}
use Rattle.state.specs.declared.Fields.{Fields}
use Rattle.state.specs.State.{state_of}
use Rattle.row.specs.Row.{Row, row}
use Rattle.joining.specs.declared.Part.{Part}
use Rattle.joining.specs.declared.Part.TheVariants.{Keep, Set, Refuse}
use Rattle.effect.specs.declared.EffectAnswer.{EffectAnswer}

-- "A part is the refusal that a row gives from such a latch; without one, the last word that became the latch; without one, keep."
abbrev pub part_of : Fields → Outcome Row → Part
part_of f (refused x) = Refuse (refusal f.row x)
part_of f (given n r) = when r.drawing.pen.latched then Set r.drawing.pen.latch else Keep

-- "unless both parts refuse, comes with the next state's other fields": those of the first outcome that is no refusal
abbrev pub next_of : Outcome Row → Option Fields → Option Fields
next_of (given n r) otherwise = Some r.next
next_of (refused x) otherwise = otherwise

-- a latch with ignore clear, and one with it set
abbrev pub latch_with : Bool → ℕ
latch_with false = 0
latch_with true = 0x2000

-- the row from such a latch
unfoldable pub outcome_for : Settings → List ℕ → Fields → Bool → Outcome Row
outcome_for σ m f ignore = run m (row σ (state_of (latch_with ignore) f))

-- the answer, from the row's outcomes with ignore clear and with it set
abbrev pub effect_of : Fields → Outcome Row → Outcome Row → EffectAnswer
effect_of f clear set = record {
  effect = record { clear = part_of f clear; set = part_of f set };
  next = next_of clear (next_of set None);
}

-- "A row's effect doesn't depend on the state's latch; it takes a row's checks but 1"
unfoldable pub effect_call : Settings → List ℕ → Fields → EffectAnswer
effect_call σ m f = effect_of f (outcome_for σ m f false) (outcome_for σ m f true)
