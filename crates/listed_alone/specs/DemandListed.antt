-- Demand 3, "A row can be drawn alone", for row calls with a list: the statement. Document 02: "Demand 3 takes a call refused 25 like one
-- refused 1, and lends the row drawn alone a list of 12,000 places; an effect is lent no list and takes a row's checks but 1 and 25."
-- Without lists it is `Demand3` of effect/specs/Demand.antt, whose words on effects hold here too.
use Rattle.std.specs.Prelude.{ℕ, ◌≡◌, Bool, ◌&&◌, List, [], ◌∷◌, ◌++◌, length, take, drop, eqb, Result, Ok, Err}
use Rattle.memory.specs.Word.{when◌then◌else◌}
use Rattle.memory.specs.declared.Refusal.{Refusal}
use Rattle.settings.specs.declared.Settings.{Settings}
use Rattle.state.specs.declared.Fields.{Fields}
use Rattle.state.specs.declared.State.{State}
use Rattle.state.specs.State.{state_of}
use Rattle.joining.specs.declared.Effect.{Effect}
use Rattle.joining.specs.Join.{empty, join, apply}
use Rattle.row.specs.declared.DrawnRow.{DrawnRow}
use Rattle.effect.specs.declared.EffectAnswer.{EffectAnswer}
use Rattle.effect.specs.Demand.{state_after, effect_on, fields_after}
use Rattle.listed.specs.Listed.{RowListed, row_with, row_listed}

-- a row call with any buffer and any list, and what the claim leaves free: the latch of the effect call made for its row, and buffer and list
-- lent to the same row drawn alone
pub record Call : Type 0 where
  pub buffer : List ℕ
  pub list : List ℕ
  pub effect_latch : ℕ
  pub alone_buffer : List ℕ
  pub alone_size : length alone_buffer ≡ 132
  pub alone_list : List ℕ
  pub alone_places : length alone_list ≡ 12000

-- "A call refused 1 is no row", and one refused 25 neither
abbrev pub is_row : Call → Bool
is_row c = eqb (length c.buffer) 132 && eqb (length c.list) 12000

-- "Its answer and its buffer's cells equal the call's, or its refusal does", and its list does: as many places as words were read hold the
-- same addresses, and "places past them stay" in the call's list; a refusal leaves the call's buffer and list as they were handed in
unfoldable pub on_lent : Call → Result DrawnRow Refusal → (cells list : List ℕ) → RowListed
on_lent c (Ok r) cells list = row_with (Ok r) cells (take r.words list ++ drop r.words c.list)
on_lent c (Err r) cells list = row_with (Err r) c.buffer c.list

-- "demand 3 is for lists with no write in them": memory stays
module _ (σ : Settings) (m : List ℕ) where
  -- what the rows among the calls give, in turn; a call refused 1 or 25 is made too, but it has no row to compare
  unfoldable pub in_turn : State → List Call → List RowListed
  in_turn s [] = []
  in_turn s (c ∷ cs) =
      let out : RowListed = row_listed σ m s c.buffer c.list in
      let rest : List RowListed = in_turn (state_after s out.answer) cs in
      when is_row c then out ∷ rest else rest

  -- the first refusal of the rows above; or a row call with 132 cells and a list of 12,000 places, on the fields then reached and the
  -- latch that the joined effects make of the first one
  unfoldable pub row_alone : Fields → Call → Result ℕ Refusal → RowListed
  row_alone f c (Err r) = row_with (Err r) c.buffer c.list
  row_alone f c (Ok l) =
      let out : RowListed = row_listed σ m (state_of l f) c.alone_buffer c.alone_list in
      on_lent c out.answer out.buffer out.list

  -- the same rows, each drawn alone
  unfoldable pub drawn_alone : ℕ → Fields → Effect → List Call → List RowListed
  drawn_alone first f above [] = []
  drawn_alone first f above (c ∷ cs) =
      let x : EffectAnswer = effect_on σ m (state_of c.effect_latch f) in
      when is_row c
      then row_alone f c (apply above first) ∷ drawn_alone first (fields_after f x.next) (join above x.effect) cs
      else drawn_alone first f above cs

-- the claim about a list of row calls, refused ones included, with any row buffers and any lists
abbrev pub Demand3Listed : Type 0
Demand3Listed =
    (σ : Settings) (m : List ℕ) (s : State) (calls : List Call) → in_turn σ m s calls ≡ drawn_alone σ m s.latch s.fields empty calls
