-- What the two frames, row beside row, say of the rows by their numbers.
use mathlib.Core.Path.{◌≡◌, refl, ap, ap₂, sym, ◌∙◌}
use mathlib.Core.List.{List, [], ◌∷◌}
use mathlib.Core.Option.{Option, none, some}
use Prim.Native.Nat.{ℕ, zero, suc, ◌≤◌}
use native.Mathlib.Omega.{arith}
use lib.ListN.{take, get_elem?}
use Rattle.settings.specs.declared.Settings.{Settings}
use Rattle.state.specs.declared.State.{State}
use Rattle.state.specs.State.{state_of}
use Rattle.row.specs.Row.{row_call}
use Rattle.frame.specs.Frame.{FrameRow, blank}
use Rattle.joining.specs.Join.{empty}
use Rattle.effect.specs.Effect.{effect_call}
use Rattle.insertion.specs.Followed.{called_on}
use Rattle.insertion.specs.Insertion.{Insertion, cells_called, cells_of}
use Rattle.insertion.proofs.Lower.{Pairs, fallen, more}
use Rattle.insertion.proofs.Higher.{inserted, Moved, over, here, above}

-- no row is there
absent : {A B : Type 0} {a : A} → ◌≡◌ {A = Option A} none (some a) → B
absent e = let z : ◌≡◌ {A = ℕ} 0 1 = cc in absurd (omega arith)

-- a row that is there has a state
pub data Stated (s : State) (rs : List FrameRow) (j : ℕ) : Type 0 where
  stated : {t : State} → get_elem? (called_on s rs) j ≡ some t → Stated s rs j

pub has-state : (s : State) (rs : List FrameRow) (j : ℕ) {r : FrameRow} → get_elem? rs j ≡ some r → Stated s rs j
unfolding called_on
has-state s [] j e = absent e
has-state s (r ∷ rs) zero e = stated {t = s} refl
has-state s (r ∷ rs) (suc j) e = next (has-state r.answer.next rs j e)
  where
    next : Stated r.answer.next rs j → Stated s (r ∷ rs) (suc j)
    next (stated f) = stated f

module _ (latch : ℕ) (σ : Settings) (link : ℕ) (old new : List ℕ) (h : Insertion latch σ link old new) where
  pairs-at : {o n : State} {os ns : List FrameRow} → Pairs latch σ link old new h o os n ns → (j : ℕ) {s u : State} {r : FrameRow}
      → get_elem? (called_on o os) j ≡ some s → get_elem? (called_on n ns) j ≡ some u → get_elem? ns j ≡ some r
      → some r.cells ≡ cells_called (row_call σ old (state_of u.latch s.fields) blank)
  unfolding called_on
  pairs-at fallen j d e f = absent f
  pairs-at (more {o} {n} {r} c k p) zero {s} {u} {r = x} d e f =
      let a : r ≡ x = cc in
      let b : o ≡ s = cc in
      let g : n ≡ u = cc in
      ap (λ (r : FrameRow). some r.cells) (sym a) ∙ c ∙ ap₂ (λ (n o : State). cells_called (row_call σ old (state_of n.latch o.fields) blank)) g b
  pairs-at (more c k p) (suc j) d e f = pairs-at p j d e f

  pairs-kept : {o n : State} {os ns : List FrameRow} → Pairs latch σ link old new h o os n ns → n.latch ≡ o.latch → (j : ℕ) {q r : FrameRow}
      → get_elem? os j ≡ some q → get_elem? ns j ≡ some r → r.cells ≡ q.cells
  pairs-kept fallen l j d e = absent e
  pairs-kept (more {q} {r} c k p) l zero {q = x} {r = y} d e =
      let a : q ≡ x = cc in
      let b : r ≡ y = cc in
      ap (λ (r : FrameRow). r.cells) (sym b) ∙ (k l).0 ∙ ap (λ (r : FrameRow). r.cells) a
  pairs-kept (more c k p) l (suc j) d e = pairs-kept p (k l).1 j d e

  pub above-cells : {p : ℕ} {o n : State} {os ns : List FrameRow} → Moved latch σ link old new h p o os n ns → take p (cells_of ns) ≡ take p (cells_of os)
  above-cells over = refl
  above-cells (here c k p) = refl
  above-cells (above c m) = ap₂ ◌∷◌ c (above-cells m)

  pub placed-cells : {p : ℕ} {o n : State} {os ns : List FrameRow} → Moved latch σ link old new h p o os n ns → {s : State} {r : FrameRow}
      → get_elem? (called_on o os) p ≡ some s → get_elem? ns p ≡ some r → some r.cells ≡ cells_called (row_call σ new (inserted latch σ link old new h s) blank)
  unfolding called_on
  placed-cells over d e = absent e
  placed-cells (here {o} {r} c k p) {s} {r = x} d e =
      let a : r ≡ x = cc in
      let b : o ≡ s = cc in
      ap (λ (r : FrameRow). some r.cells) (sym a) ∙ c ∙ ap (λ (o : State). cells_called (row_call σ new (inserted latch σ link old new h o) blank)) b
  placed-cells (above c m) d e = placed-cells m d e

  pub below-cells : {p : ℕ} {o n : State} {os ns : List FrameRow} → Moved latch σ link old new h p o os n ns → (j : ℕ) {s u : State} {r : FrameRow}
      → p ≤ j → get_elem? (called_on o os) j ≡ some s → get_elem? (called_on n ns) (suc j) ≡ some u → get_elem? ns (suc j) ≡ some r
      → some r.cells ≡ cells_called (row_call σ old (state_of u.latch s.fields) blank)
  unfolding called_on
  below-cells over j l d e f = absent f
  below-cells (here c k p) j l d e f = pairs-at p j d e f
  below-cells (above c m) zero l d e f = absurd (omega arith)
  below-cells (above c m) (suc j) l d e f = below-cells m j (omega arith) d e f

  pub kept-cells : {p : ℕ} {o n : State} {os ns : List FrameRow} → Moved latch σ link old new h p o os n ns
      → ((s : State) → get_elem? (called_on n ns) p ≡ some s → (effect_call σ new s.fields).effect ≡ empty)
      → (j : ℕ) {q r : FrameRow} → p ≤ j → get_elem? os j ≡ some q → get_elem? ns (suc j) ≡ some r → r.cells ≡ q.cells
  unfolding called_on
  kept-cells over k j l d e = absent e
  kept-cells (here c i p) k j l d e = pairs-kept p (i (k _ refl)) j d e
  kept-cells (above c m) k zero l d e = absurd (omega arith)
  kept-cells (above c m) k (suc j) l d e = kept-cells m k j (omega arith) d e
