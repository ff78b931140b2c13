-- The row that comes in first has number, format, cells and refusal of the row beside the cut.
use mathlib.Core.Path.{◌≡◌, refl, sym, subst}
use mathlib.Core.List.{List, []}
use mathlib.Core.Option.{Option, none, some}
use Prim.Native.Nat.{ℕ, suc, ◌+◌, ◌≤◌}
use native.Mathlib.Omega.{arith}
use lib.ListN.{length}
use lib.Dec.{eqb}
use borrow.Author.Tests.{eq-eqb, eqb-true, lt-ltb}
use Rattle.memory.specs.declared.Refusal.{Refusal}
use Rattle.memory.specs.Reading.{Outcome, given, refused, run}
use Rattle.memory.proofs.ReadBounds.{Words, if-cases}
use Rattle.memory.proofs.Related.{Ends, givens, refuseds, run-rel}
use Rattle.settings.specs.declared.Settings.{Settings}
use Rattle.state.specs.declared.Fields.{Fields}
use Rattle.state.specs.declared.State.{State}
use Rattle.start.specs.Start.{start_from, started, start_call}
use Rattle.row.specs.Row.{Row, row, with_cursor, answered, row_call}
use Rattle.row.proofs.RowBound.{lines-run-out}
use Rattle.frame.specs.declared.Progress.{Progress}
use Rattle.frame.specs.Step.{begun, begin, row_step, Stepped, step}
use Rattle.frame.specs.Frame.{Frame, by_answer, by_step, blank, within, rest, frame}
use Rattle.frame.proofs.Frames.{frame-count}
use Rattle.beside.specs.Beside.{told, with_one_line, with_top, row_below, after_start, row_above, beside_call}
use Rattle.picture.specs.Picture.{picture_row, picture_rows, rows_from, onward, below_of, below_rows, first_row, above_row, picture}
use Rattle.picture.specs.Beside.{FirstOf, IsFirst, ComesInBeside}
use Rattle.picture.proofs.Above.{above-down}
use Rattle.picture.proofs.RowLines.{RowLike, rows, row-like}

-- a row call on fields f, k words having been read before, against the first step of a frame in progress p: they differ in lines left
module _ (σ : Settings) (m : List ℕ) (w : Words m) (f : Fields) (k : ℕ) (buffer : List ℕ) (go_on : Progress → Frame) (p : Progress)
    (number : p.state.fields.row ≡ f.row) (mark : (cs : List ℕ) → with_cursor σ p.state.fields cs ≡ with_cursor σ f cs) where
  by-ends : {u v : Outcome Row} → Ends RowLike u v
      → FirstOf (picture_rows σ m p.state (by_answer go_on p (row_step p (answered σ p.state.fields blank v).answer) (answered σ p.state.fields blank v).buffer).rows)
      (told k (answered σ f buffer u).answer) (answered σ f buffer u).buffer
  unfolding picture_rows picture_row
  by-ends (givens (rows i j t g h d)) = record { number = number; format = refl; cells = mark d.cells }
  by-ends refuseds = tt

  -- where no line is left both are refused
  no_line : {u v : Outcome Row} → Ends RowLike u v → run m (row σ p.state) ≡ v → p.state.fields.left ≡ 0
      → FirstOf [] (told k (answered σ f buffer u).answer) (answered σ f buffer u).buffer
  no_line (givens (rows i j t g h d)) e z = absurd (omega (arith, lines-run-out σ m w p.state _ _ e))
  no_line refuseds e z = tt

  first_step : {u : Outcome Row} → Ends RowLike u (run m (row σ p.state))
      → FirstOf (picture_rows σ m p.state (by_step go_on p (step σ m p blank)).rows) (told k (answered σ f buffer u).answer) (answered σ f buffer u).buffer
  unfolding step row_call picture_rows
  first_step {u} h =
      if-cases (λ (s : Stepped). FirstOf (picture_rows σ m p.state (by_step go_on p s).rows) (told k (answered σ f buffer u).answer) (answered σ f buffer u).buffer)
      (eqb p.state.fields.left 0) (λ e. no_line h refl (eqb-true _ 0 e)) (λ _. by-ends h)

-- ---- up ----

module _ (σ : Settings) (m : List ℕ) (w : Words m) (last : State) (n : ℕ) (fits : last.fields.row + suc n ≤ 4095) (buffer : List ℕ)
    (sized : length buffer ≡ 132) where
  below-first : IsFirst (row_below σ m last buffer) (rows_from σ m (onward (suc n) last))
  unfolding row_below row_call rest within with_cursor
  below-first =
      rw (eq-eqb (length buffer) 132 sized)
      (first_step σ m w (with_one_line last.fields) 0 buffer (within n σ m) (onward (suc n) last) refl (λ cs. refl)
      (run-rel 0 m (row-like σ last.fields 1 (suc n) (omega arith) (omega arith) (omega arith) fits last.latch)))

  below_of_lem : (r : Option Refusal) (s : Option State) → r ≡ none → s ≡ some last → IsFirst (row_below σ m last buffer) (below_of σ m (suc n) r s)
  below_of_lem none (some s) e h = let k : last ≡ s = cc in subst (λ (s : State). IsFirst (row_below σ m last buffer) (rows_from σ m (onward (suc n) s))) k below-first
  below_of_lem none none e h = let z : ◌≡◌ {A = ℕ} 0 1 = cc in absurd (omega arith)
  below_of_lem (some r) s e h = let z : ◌≡◌ {A = ℕ} 0 1 = cc in absurd (omega arith)

-- ---- down ----

itself : (o : Outcome Row) → Ends RowLike o o
itself (given n r) = givens (rows _ _ _ _ _ _)
itself (refused x) = refuseds

module _ (σ : Settings) (m : List ℕ) (w : Words m) (latch : ℕ) (buffer : List ℕ) (sized : length buffer ≡ 132) where
  by-start : (o : Outcome State) → IsFirst (after_start σ m buffer (started o)) (first_row σ m (begun (started o)))
  unfolding row_call within
  by-start (given k s) =
      rw (eq-eqb (length buffer) 132 sized)
      (first_step σ m w s.fields k buffer (within 0 σ m) (record { state = s; words = k }) refl (λ cs. refl) (itself (run m (row σ s))))
  by-start (refused x) = tt

  above-first : IsFirst (row_above σ m latch buffer) (above_row latch σ m)
  unfolding row_above above_row begin start_call
  above-first = rw (eq-eqb (length buffer) 132 sized) (by-start (run m (start_from latch σ)))

-- ---- both ----

-- the state that a frame ended with counts its rows
module _ (σ : Settings) (m : List ℕ) (w : Words m) (latch : ℕ) (last : State) (h : (frame latch σ m).state ≡ some last) where
  by-outcome : (o : Outcome State) → run m (start_from latch σ) ≡ o → last.fields.row ≡ length (frame latch σ m).rows
  unfolding frame begin
  by-outcome (given n s) e = frame-count σ m w latch e last h
  by-outcome (refused x) e = let k = rw e at h in let z : ◌≡◌ {A = ℕ} 0 1 = cc in absurd (omega arith)

  counted : last.fields.row ≡ length (frame latch σ m).rows
  counted = by-outcome (run m (start_from latch σ)) refl

pub comes-in-beside : ComesInBeside
unfolding picture beside_call below_rows
comes-in-beside soft latch σ m w last buffer sized = record {
  up = λ n e h l.
      rw (lt-ltb 0 (suc n) (omega arith))
      (below_of_lem σ m w last n (omega (arith, counted σ m w latch last h)) buffer sized (frame latch σ m).refusal (frame latch σ m).state e h);
  down = λ n.
      subst (IsFirst (row_above (with_top σ soft) m latch buffer)) (sym (above-down n soft latch σ m))
      (above-first (with_top σ soft) m w latch buffer sized);
}
