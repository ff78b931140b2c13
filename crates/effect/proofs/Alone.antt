-- Demand 3, the proof: a row's outcome from any latch follows from its effect, and so do the outcomes of a list of row calls.
use Rattle.std.proofs.Common.{Option, Some, None, Result, Ok, Err}
use mathlib.Core.Path.{◌≡◌, refl, ap, ap₂, sym, ◌∙◌}
use mathlib.Core.Bool.{Bool, true, false}
use mathlib.Core.List.{List, [], ◌∷◌}
use Prim.Native.Nat.{ℕ}
use lib.ListN.{length}
use Rattle.memory.specs.declared.Fault.{Fault}
use Rattle.memory.specs.Reading.{Outcome, given, refused, refusal, run}
use Rattle.memory.proofs.Related.{Ends, givens, refuseds, run-rel}
use Rattle.memory.specs.declared.Refusal.{Refusal}
use Rattle.settings.specs.declared.Settings.{Settings}
use Rattle.state.specs.declared.Fields.{Fields}
use Rattle.state.specs.declared.State.{State}
use Rattle.state.specs.State.{state_of}
use Rattle.codes.specs.Attribute.{ignores}
use Rattle.plan.specs.Plan.{Plan}
use Rattle.row.specs.Row.{Row, row, answered, row_call}
use Rattle.cells.proofs.Alike.{kept, became, alike}
use Rattle.row.proofs.RowAlike.{EndAlike, ends, row-alike, Planned, accepts, refusing, row-planned}
use Rattle.joining.specs.declared.Effect.{Effect}
use Rattle.joining.specs.Join.{empty, part_for, join, apply_part, apply}
use Rattle.effect.specs.Effect.{part_of, next_of, latch_with, outcome_for, effect_call}
use Rattle.effect.specs.Demand.{Call, is_row, state_after, fields_after, on_buffer, in_turn, row_alone, drawn_alone, Demand3}
use Rattle.joining.proofs.Joining.{join-assoc, empty-join, join-empty, apply-join, apply-empty}
use Rattle.row.specs.declared.DrawnRow.{DrawnRow}

-- ---- a row from any latch ----

-- what an answer makes of the latch
abbrev pub latch_made : Result DrawnRow Refusal → Result ℕ Refusal
latch_made (Ok r) = Ok r.next.latch
latch_made (Err r) = Err r

-- the fields that an effect comes with are those of an accepted row's next state
abbrev pub FieldsMade : Option Fields → Result DrawnRow Refusal → Type 0
FieldsMade next (Ok r) = next ≡ Some r.next.fields
FieldsMade next (Err r) = Unit

-- the row call with a buffer of 132 cells
sized : (σ : Settings) (m : List ℕ) (s : State) (b : List ℕ) → length b ≡ 132
    → row_call σ m s b ≡ answered σ s.fields b (run m (row σ s))
unfolding row_call
sized σ m s b e = rw e

-- o₀ is the outcome from the latch l₀ of a part, o the one from a latch l with the same bit 13
module _ (σ : Settings) (f : Fields) (b : List ℕ) (l₀ l : ℕ) where
  part-latch : {o₀ o : Outcome Row} → Ends (EndAlike l₀ l) o₀ o → latch_made (answered σ f b o).answer ≡ apply_part (part_of f o₀) l
  part-latch refuseds = refl
  part-latch (givens (ends n t g d e (alike c u xs ys kept))) = refl
  part-latch (givens (ends n t g d e (alike c u xs ys (became w)))) = refl

  first-fields : {o₀ o : Outcome Row} (otherwise : Option Fields) → Ends (EndAlike l₀ l) o₀ o
      → FieldsMade (next_of o₀ otherwise) (answered σ f b o).answer
  first-fields otherwise refuseds = tt
  first-fields otherwise (givens (ends n t g d e r)) = refl

  second-fields : {op : Outcome Plan} {o₁ o₀ o : Outcome Row} → Planned op o₁ → Planned op o₀ → Ends (EndAlike l₀ l) o₀ o
      → FieldsMade (next_of o₁ (next_of o₀ None)) (answered σ f b o).answer
  second-fields h k refuseds = tt
  second-fields (accepts h) (accepts k) (givens (ends n t g d e r)) = ap Some (h ∙ sym k)
  second-fields refusing k (givens (ends n t g d e r)) = refl

-- the latch of a part has the bit 13 that the part is for
ignores-with : (t : Bool) → ignores (latch_with t) ≡ t
ignores-with false = refl
ignores-with true = refl

module _ (σ : Settings) (m : List ℕ) (f : Fields) (l : ℕ) (b : List ℕ) where
  alike-with : (t : Bool) → ignores l ≡ t → Ends (EndAlike (latch_with t) l) (outcome_for σ m f t) (run m (row σ (state_of l f)))
  unfolding outcome_for
  alike-with t e = run-rel 0 m (row-alike (latch_with t) l (ignores-with t ∙ sym e) σ f)

  part-for : (t : Bool) → part_for t (effect_call σ m f).effect ≡ part_of f (outcome_for σ m f t)
  unfolding effect_call
  part-for false = refl
  part-for true = refl

  outcome-latch : latch_made (answered σ f b (run m (row σ (state_of l f)))).answer ≡ apply (effect_call σ m f).effect l
  outcome-latch = part-latch σ f b _ l (alike-with (ignores l) refl) ∙ ap (λ p. apply_part p l) (sym (part-for (ignores l)))

  outcome-fields : FieldsMade (effect_call σ m f).next (answered σ f b (run m (row σ (state_of l f)))).answer
  unfolding effect_call outcome_for
  outcome-fields = by_bit (ignores l) refl
    where
      by_bit : (t : Bool) → ignores l ≡ t → FieldsMade (effect_call σ m f).next (answered σ f b (run m (row σ (state_of l f)))).answer
      by_bit false e = first-fields σ f b (latch_with false) l _ (alike-with false e)
      by_bit true e = second-fields σ f b (latch_with true) l (row-planned σ m f _) (row-planned σ m f _) (alike-with true e)

  -- a row's outcome from any latch follows from its effect: what the part for bit 13 makes of the latch, and the fields
  pub row-latch : length b ≡ 132 → latch_made (row_call σ m (state_of l f) b).answer ≡ apply (effect_call σ m f).effect l
  row-latch e = rw (sized σ m (state_of l f) b e) outcome-latch

  pub row-fields : length b ≡ 132 → FieldsMade (effect_call σ m f).next (row_call σ m (state_of l f) b).answer
  row-fields e = rw (sized σ m (state_of l f) b e) outcome-fields

-- ---- a list of row calls ----

-- one outcome on two buffers
same_row : (σ : Settings) (f : Fields) (a b : List ℕ) (o : Outcome Row)
    → answered σ f a o ≡ on_buffer a (answered σ f b o).answer (answered σ f b o).buffer
unfolding on_buffer
same_row σ f a b (given n r) = refl
same_row σ f a b (refused x) = refl

module _ (σ : Settings) (m : List ℕ) (first : ℕ) where
  -- where the calls stand against the effects of the rows above: these make the state's latch, on its fields; or they refuse as a
  -- row from the state does
  pub data Stands (f : Fields) (above : Effect) : State → Type 0 where
    goes : {l : ℕ} → apply above first ≡ Ok l → Stands f above (state_of l f)
    stays : {s : State} (x : Fault) → run m (row σ s) ≡ refused x → apply above first ≡ Err (refusal s.fields.row x)
        → Stands f above s

  -- the call is the row drawn alone
  head : {f : Fields} {above : Effect} {s : State} (c : Call) → Stands f above s
      → answered σ s.fields c.buffer (run m (row σ s)) ≡ row_alone σ m f c (apply above first)
  unfolding row_alone
  head {f} c (goes {l} h) =
      rw (h, sized σ m (state_of l f) c.alone_buffer c.alone_size) (same_row σ f c.buffer c.alone_buffer (run m (row σ (state_of l f))))
  head c (stays x e h) = rw (h, e)

  -- and the calls after it stand so again
  module _ (f : Fields) (above : Effect) (b : List ℕ) where
    abbrev pub Next : State → Outcome Row → Type 0
    Next s o =
        let x = effect_call σ m f in
        Stands (fields_after f x.next) (join above x.effect) (state_after s (answered σ s.fields b o).answer)

    go_on : (l : ℕ) (o : Outcome Row) → run m (row σ (state_of l f)) ≡ o
        → apply (join above (effect_call σ m f).effect) first ≡ latch_made (answered σ f b o).answer
        → FieldsMade (effect_call σ m f).next (answered σ f b o).answer → Next (state_of l f) o
    unfolding state_after fields_after
    go_on l (given n r) e h k = rw k (goes h)
    go_on l (refused x) e h k = stays x e h

    pub tail : {s : State} → Stands f above s → Next s (run m (row σ s))
    unfolding state_after
    tail (goes {l} h) =
        go_on l (run m (row σ (state_of l f))) refl
        (apply-join above (effect_call σ m f).effect first ∙ rw h (sym (outcome-latch σ m f l b))) (outcome-fields σ m f l b)
    tail (stays x e h) = rw e (stays x e (apply-join above (effect_call σ m f).effect first ∙ rw h))

  turn : (c : Call) (cs : List Call) (f : Fields) (above : Effect) (s : State) → Stands f above s
      → ((f : Fields) (above : Effect) (s : State) → Stands f above s → in_turn σ m s cs ≡ drawn_alone σ m first f above cs)
      → in_turn σ m s (c ∷ cs) ≡ drawn_alone σ m first f above (c ∷ cs)
  unfolding in_turn drawn_alone row_call state_after
  turn c cs f above s st rest = by_size (is_row c) refl
    where
      by_size : (t : Bool) → is_row c ≡ t → in_turn σ m s (c ∷ cs) ≡ drawn_alone σ m first f above (c ∷ cs)
      by_size true e = rw e (ap₂ ◌∷◌ (head c st) (rest _ _ _ (tail f above c.buffer st)))
      by_size false e = rw e (rest f above s st)

  in-turn : (cs : List Call) (f : Fields) (above : Effect) (s : State) → Stands f above s
      → in_turn σ m s cs ≡ drawn_alone σ m first f above cs
  unfolding in_turn drawn_alone
  in-turn [] f above s st = refl
  in-turn (c ∷ cs) f above s st = turn c cs f above s st (in-turn cs)

pub demand-3 : Demand3
demand-3 = record {
  grouping = join-assoc;
  empty_before = empty-join;
  empty_after = join-empty;
  empty_applied = apply-empty;
  rows = λ σ m s calls. in-turn σ m s.latch calls s.fields empty s (goes (apply-empty s.latch));
}
