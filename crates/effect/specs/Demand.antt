-- Demand 3, "A row can be drawn alone": the statement. Its words are the mission's and document 01's: "Demand 3 is a single claim
-- about a list of row calls, not one for each call."
use Rattle.std.specs.Prelude.{ℕ, ◌≡◌, Bool, List, [], ◌∷◌, length, eqb, Option, Some, None, Result, Ok, Err}
use Rattle.memory.specs.Word.{when◌then◌else◌}
use Rattle.memory.specs.declared.Refusal.{Refusal}
use Rattle.settings.specs.declared.Settings.{Settings}
use Rattle.state.specs.declared.Fields.{Fields}
use Rattle.state.specs.declared.State.{State}
use Rattle.state.specs.State.{state_of}
use Rattle.row.specs.Row.{Called, called, row_call}
use Rattle.joining.specs.declared.Effect.{Effect}
use Rattle.effect.specs.declared.EffectAnswer.{EffectAnswer}
use Rattle.joining.specs.Join.{empty, join, apply}
use Rattle.row.specs.declared.DrawnRow.{DrawnRow}
use Rattle.effect.specs.Effect.{effect_call}

-- "any list of row calls, refused ones included, with any row buffers": a call's buffer has any size and any cells. Beside it stands
-- what the claim leaves free: the latch of the effect call made for its row, and the buffer lent to the same row drawn alone.
pub record Call : Type 0 where
  pub buffer : List ℕ
  pub effect_latch : ℕ
  pub alone_buffer : List ℕ
  pub alone_size : length alone_buffer ≡ 132

-- "A call refused 1 is no row"; refusal 1 is "row buffer not 132 cells"
abbrev pub is_row : Call → Bool
is_row c = eqb (length c.buffer) 132

-- "Each goes on from the state that the last one gave or left"
unfoldable pub state_after : State → Result DrawnRow Refusal → State
state_after s (Ok r) = r.next
state_after s (Err r) = s

-- "one effect call is made, with any latch": the call's type has only the state's other fields, so the latch is not looked at
abbrev pub effect_on : Settings → List ℕ → State → EffectAnswer
effect_on σ m s = effect_call σ m s.fields

-- "each next on those that the one before came with, or on the same again where both its parts refused"
unfoldable pub fields_after : Fields → Option Fields → Fields
fields_after f (Some next) = next
fields_after f None = f

-- "Its answer and its buffer's cells equal the call's, or its refusal does": an accepted row leaves the same cells in the call's
-- buffer and in any other lent to it; of a refused one only the refusal is the same, and the call's buffer is as it was handed in.
unfoldable pub on_buffer : List ℕ → Result DrawnRow Refusal → List ℕ → Called
on_buffer buffer (Ok r) cells = called (Ok r) cells
on_buffer buffer (Err r) cells = called (Err r) buffer

-- "memory and settings stay, and nobody else writes the state"
module _ (σ : Settings) (m : List ℕ) where
  -- what the rows among the calls give, in turn; a call refused 1 is made too, but it has no row to compare
  unfoldable pub in_turn : State → List Call → List Called
  in_turn s [] = []
  in_turn s (c ∷ cs) =
      let out : Called = row_call σ m s c.buffer in
      let rest : List Called = in_turn (state_after s out.answer) cs in
      when is_row c then out ∷ rest else rest

  -- "If they refuse, the call gives this same first refusal." "The row drawn alone is a row call with 132 cells on the fields then
  -- reached and the latch that the joined effects make of the first one."
  unfoldable pub row_alone : Fields → Call → Result ℕ Refusal → Called
  row_alone f c (Err r) = called (Err r) c.buffer
  row_alone f c (Ok l) =
      let out : Called = row_call σ m (state_of l f) c.alone_buffer in
      on_buffer c.buffer out.answer out.buffer

  -- the same rows, each drawn alone: `first` is the first latch, f are the fields reached, `above` the effects of the rows above,
  -- joined first to last. "For each row above a call one effect call is made"
  unfoldable pub drawn_alone : ℕ → Fields → Effect → List Call → List Called
  drawn_alone first f above [] = []
  drawn_alone first f above (c ∷ cs) =
      let x : EffectAnswer = effect_on σ m (state_of c.effect_latch f) in
      when is_row c
      then row_alone f c (apply above first) ∷ drawn_alone first (fields_after f x.next) (join above x.effect) cs
      else drawn_alone first f above cs

-- "these effects can be joined in any grouping with the same outcome, and an empty one changes nothing"; and the claim about a list
-- of row calls, "from a start's state or any other", with no row above the first: "the first on the first state's other fields". A
-- start's state has the latch that the frame before handed on (`FromStart.frame-alone`).
pub record Demand3 : Type 0 where
  pub grouping : (a b c : Effect) → join (join a b) c ≡ join a (join b c)
  pub empty_before : (e : Effect) → join empty e ≡ e
  pub empty_after : (e : Effect) → join e empty ≡ e
  pub empty_applied : (latch : ℕ) → apply empty latch ≡ Ok latch
  pub rows : (σ : Settings) (m : List ℕ) (s : State) (calls : List Call)
      → in_turn σ m s calls ≡ drawn_alone σ m s.latch s.fields empty calls
