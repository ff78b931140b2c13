-- A frame that is not refused, as the chain of its rows: each is a row of its state, and the last leaves no line.
use mathlib.Core.Path.{◌≡◌, refl, sym, subst}
use mathlib.Core.Bool.{Bool, true, false}
use mathlib.Core.List.{List, [], ◌∷◌}
use mathlib.Core.Option.{Option, none, some}
use Prim.Native.Nat.{ℕ, zero, suc, ◌<◌, ◌≤◌}
use native.Mathlib.Omega.{arith}
use native.Mathlib.Nat.{le_refl}
use lib.Dec.{eqb}
use borrow.Author.Tests.{eqb-true, eqb-false}
use Rattle.memory.specs.Reading.{Outcome, given, refused, run}
use Rattle.memory.proofs.ReadBounds.{Words}
use Rattle.settings.specs.declared.Settings.{Settings}
use Rattle.state.specs.declared.State.{State}
use Rattle.state.specs.State.{state_of}
use Rattle.start.specs.Start.{start_from}
use Rattle.row.specs.Row.{Row, row, with_cursor, answered, row_call}
use Rattle.row.proofs.RowBound.{row-drawn}
use Rattle.frame.specs.declared.Progress.{Progress}
use Rattle.frame.specs.Step.{begin, row_step, Stepped, stepped, step}
use Rattle.frame.specs.Frame.{FrameRow, frame_row, by_step, blank, within, rest, frame}
use Rattle.frame.proofs.StepLaws.{no_line, by_row}
use Rattle.insertion.specs.Followed.{called_on, states}

-- an accepted row's next state, and its answer with its cells
abbrev pub next_of : Row → State
next_of r = state_of r.drawing.pen.latch r.next

abbrev pub drawn_row : Settings → State → ℕ → Row → FrameRow
drawn_row σ s n r =
    frame_row (record { number = s.fields.row; lines = r.lines; format = r.format; words = n; next = next_of r })
    (with_cursor σ s.fields r.drawing.cells)

pub data Chain (σ : Settings) (m : List ℕ) : State → List FrameRow → Type 0 where
  ended : {s : State} → s.fields.left ≡ 0 → Chain σ m s []
  drawn : {s : State} {n : ℕ} {r : Row} {rs : List FrameRow} → (s.fields.left ≡ 0 → ⊥) → run m (row σ s) ≡ given n r → Chain σ m (next_of r) rs
      → Chain σ m s (drawn_row σ s n r ∷ rs)

some-none : {A B : Type 0} {a : A} → ◌≡◌ {A = Option A} (some a) none → B
some-none e = let z : ◌≡◌ {A = ℕ} 0 1 = cc in absurd (omega arith)

module _ (σ : Settings) (m : List ℕ) where
  pub right-buffer : (s : State) → row_call σ m s blank ≡ answered σ s.fields blank (run m (row σ s))
  unfolding row_call
  right-buffer s = refl

  module _ (w : Words m) where
    -- a frame in progress that is followed for n rows, and what one step of it leaves
    abbrev Goes : ℕ → Progress → Stepped → Type 0
    Goes n p x = (by_step (within n σ m) p x).refusal ≡ none → Chain σ m p.state (by_step (within n σ m) p x).rows

    module _ (n : ℕ) (p : Progress)
        (go_on : (q : Progress) → q.state.fields.left < p.state.fields.left → (within n σ m q).refusal ≡ none → Chain σ m q.state (within n σ m q).rows) where
      by-outcome : (p.state.fields.left ≡ 0 → ⊥) → (o : Outcome Row) → run m (row σ p.state) ≡ o
          → Goes n p (stepped (row_step p (answered σ p.state.fields blank o).answer) (answered σ p.state.fields blank o).buffer)
      by-outcome l (given k r) e = λ i. drawn l e (go_on _ (row-drawn σ m w p.state e).1.fewer i)
      by-outcome l (refused x) e = λ i. some-none i

      by_lines : (b : Bool) → eqb p.state.fields.left 0 ≡ b → Goes n p (step σ m p blank)
      by_lines true e = let k = eqb-true p.state.fields.left 0 e in rw (no_line σ m p blank k) λ i. ended k
      by_lines false e =
          let l = eqb-false p.state.fields.left 0 e in
          subst (Goes n p) (by_row σ m p blank l (sym (right-buffer p.state))) (by-outcome l (run m (row σ p.state)) refl)

    follow : (n : ℕ) (p : Progress) → p.state.fields.left ≤ n → (within n σ m p).refusal ≡ none → Chain σ m p.state (within n σ m p).rows
    unfolding within
    follow zero p h = λ e. ended {s = p.state} (omega arith)
    follow (suc n) p h = by_lines n p (λ q less. follow n q (omega arith)) (eqb p.state.fields.left 0) refl

    -- a frame that is not refused: its start, its rows and their states
    pub data Begins (latch : ℕ) : Type 0 where
      begins : {n : ℕ} {s : State} → run m (start_from latch σ) ≡ given n s → Chain σ m s (frame latch σ m).rows
          → states latch σ m ≡ called_on s (frame latch σ m).rows → Begins latch

    pub frame-begins : (latch : ℕ) → (frame latch σ m).refusal ≡ none → Begins latch
    unfolding frame rest begin states
    frame-begins latch = by-start (run m (start_from latch σ)) refl
      where
        by-start : (o : Outcome State) → run m (start_from latch σ) ≡ o → (frame latch σ m).refusal ≡ none → Begins latch
        by-start (given n s) e h =
            begins e (rw e (follow s.fields.left (record { state = s; words = n }) (le_refl _) (rw e at h))) (rw e)
        by-start (refused x) e h = some-none (rw e at h)
