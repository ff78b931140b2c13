-- The rows from a state on, by its next row call with any right buffer; the words read before do not matter to them.
use Rattle.std.proofs.Common.{Result, Ok, Err}
use mathlib.Core.Path.{◌≡◌, refl, ap, ◌∙◌}
use mathlib.Core.Bool.{Bool, true, false}
use mathlib.Core.List.{List, ◌∷◌}
use mathlib.Core.Option.{Option, none, some}
use Prim.Native.Nat.{ℕ, zero, suc, ◌+◌, ◌-◌, ◌<◌, ◌≤◌}
use native.Mathlib.Omega.{arith}
use native.Mathlib.Numerals.{add-one}
use lib.ListN.{length}
use lib.Dec.{eqb}
use borrow.Author.Tests.{lt-ltb, le-ltb}
use Rattle.memory.specs.Word.{when◌then◌else◌}
use Rattle.memory.specs.declared.Refusal.{Refusal}
use Rattle.memory.proofs.ReadBounds.{Words}
use Rattle.settings.specs.declared.Settings.{Settings}
use Rattle.state.specs.declared.State.{State}
use Rattle.row.specs.declared.DrawnRow.{DrawnRow}
use Rattle.memory.specs.Reading.{Outcome, given, refused as refused-by, run}
use Rattle.row.specs.Row.{Row, row as row_read, Called, called, answered, row_call}
use Rattle.frame.specs.declared.Progress.{Progress}
use Rattle.frame.specs.Step.{stepped, step, after, row_step}
use Rattle.frame.specs.declared.StepAnswer.TheVariants as Step
use Rattle.frame.specs.Frame.{Frame, frame_row, stopped, with_row, by_answer, by_step, blank, within, rest}
use Rattle.frame.proofs.StepLaws.{no_line, by_row, Advanced, advanced}
use Rattle.frame.proofs.Frames.{next-step}
use Rattle.picture.specs.Picture.{PictureRow, picture_row, picture_rows, accepted_cells}
use Rattle.finding.specs.Finding.{located, beyond, locate, from, rest_of, rows_of, Passed}

-- a frame but for its words
abbrev uncounted : Frame → Frame
uncounted f = record { rows = f.rows; refusal = f.refusal; words = 0; state = f.state }

abbrev progress : State → ℕ → Progress
progress s w = record { state = s; words = w }

module _ (σ : Settings) (m : List ℕ) where
  by-row-answer : (f g : Progress → Frame) (s : State) (v w : ℕ) → ((t : State) (a b : ℕ) → uncounted (f (progress t a)) ≡ uncounted (g (progress t b)))
      → (x : Result DrawnRow Refusal) (cells : List ℕ)
      → uncounted (by_answer f (progress s v) (row_step (progress s v) x) cells) ≡ uncounted (by_answer g (progress s w) (row_step (progress s w) x) cells)
  by-row-answer f g s v w same (Ok d) cells = ap (with_row d cells) (same d.next (v + d.words) (w + d.words))
  by-row-answer f g s v w same (Err r) cells = refl

  by_lines : (f g : Progress → Frame) (s : State) (v w : ℕ) → ((t : State) (a b : ℕ) → uncounted (f (progress t a)) ≡ uncounted (g (progress t b)))
      → (t : Bool) (c : Called)
      → uncounted (by_step f (progress s v) (when t then stepped (Step.Ended s.fields.row v) blank else stepped (row_step (progress s v) c.answer) c.buffer))
      ≡ uncounted (by_step g (progress s w) (when t then stepped (Step.Ended s.fields.row w) blank else stepped (row_step (progress s w) c.answer) c.buffer))
  by_lines f g s v w same true c = refl
  by_lines f g s v w same false c = by-row-answer f g s v w same c.answer c.buffer

  within-words : (n : ℕ) (s : State) (v w : ℕ) → uncounted (within n σ m (progress s v)) ≡ uncounted (within n σ m (progress s w))
  unfolding within step
  within-words zero s v w = refl
  within-words (suc n) s v w =
      by_lines (within n σ m) (within n σ m) s v w (within-words n) (eqb s.fields.left 0) (row_call σ m s blank)

  pub rest-words : (s : State) (v w : ℕ) → uncounted (rest σ m (progress s v)) ≡ uncounted (rest σ m (progress s w))
  unfolding rest
  rest-words s v w = within-words s.fields.left s v w

  -- the rows from a state on, by the call on it
  module _ (words : Words m) (s : State) where
    pub at-end : s.fields.left ≡ 0 → rest_of σ m s ≡ stopped none (from s)
    at-end e = next-step σ m words (from s) blank refl ∙ rw (no_line σ m (from s) blank e)

    module _ (b : List ℕ) (l : length b ≡ 132) (more : s.fields.left ≡ 0 → ⊥) where
      pub refused : {r : Refusal} {cells : List ℕ} → called (Err r) cells ≡ row_call σ m s b → rest_of σ m s ≡ stopped (some r) (from s)
      refused e = next-step σ m words (from s) b l ∙ rw (← by_row σ m (from s) b more e)

      pub drawn : {d : DrawnRow} {cells : List ℕ} → called (Ok d) cells ≡ row_call σ m s b
          → uncounted (rest_of σ m s) ≡ uncounted (with_row d cells (rest_of σ m d.next))
      drawn {d} {cells} e =
          let next : rest_of σ m s ≡ with_row d cells (rest σ m (after (from s) d)) = next-step σ m words (from s) b l ∙ rw (← by_row σ m (from s) b more e) in
          ap uncounted next ∙ ap (with_row d cells) (rest-words d.next (0 + d.words) 0)

      -- the row that was drawn, and those after it
      module _ {d : DrawnRow} {cells : List ℕ} (e : called (Ok d) cells ≡ row_call σ m s b) where
        abbrev row : PictureRow
        row = picture_row σ m s (frame_row d cells)

        rows_on : rows_of σ m s ≡ row ∷ rows_of σ m d.next
        unfolding picture_rows
        rows_on = ap (λ (f : Frame). picture_rows σ m s f.rows) (drawn e)

        pub here : (i z : ℕ) → z < d.next.fields.format.lines → locate i (rows_of σ m s) z ≡ located i z row
        unfolding locate picture_row
        here i z h = rw (rows_on, lt-ltb z d.next.fields.format.lines h)

        pub further : (i z : ℕ) → d.next.fields.format.lines ≤ z
            → locate i (rows_of σ m s) z ≡ locate (i + 1) (rows_of σ m d.next) (z - d.next.fields.format.lines)
        unfolding locate picture_row
        further i z h = rw (rows_on, le-ltb z d.next.fields.format.lines h, ← add-one i)

        pub goes : Advanced (from s) d (after (from s) d)
        goes = advanced σ m words (from s) b (by_row σ m (from s) b more e)

        pub same-refusal : (rest_of σ m s).refusal ≡ (rest_of σ m d.next).refusal
        same-refusal = ap (λ (f : Frame). f.refusal) (drawn e)

        pub same-state : (rest_of σ m s).state ≡ (rest_of σ m d.next).state
        same-state = ap (λ (f : Frame). f.state) (drawn e)

-- past rows of which there are none
pub no_rows : (σ : Settings) (m : List ℕ) (s : State) (i z : ℕ) {e : Option Refusal} → rest_of σ m s ≡ stopped e (from s) → locate i (rows_of σ m s) z ≡ beyond z
unfolding locate picture_rows
no_rows σ m s i z e = rw e

-- a walk of the rows from s₀ on to line z stands before the row of state s, i rows later and k lines short of the line
pub record Turn (σ : Settings) (m : List ℕ) (s₀ : State) (z : ℕ) (s : State) (k i : ℕ) : Type 0 where
  pub place : locate 0 (rows_of σ m s₀) z ≡ locate i (rows_of σ m s) k
  pub refusal : (rest_of σ m s₀).refusal ≡ (rest_of σ m s).refusal
  pub state : (rest_of σ m s₀).state ≡ (rest_of σ m s).state
  pub numbered : s.fields.row ≡ s₀.fields.row + i

module _ {σ : Settings} {m : List ℕ} (words : Words m) {s₀ s : State} {z k i : ℕ} (t : Turn σ m s₀ z s k i) where
  -- no line is left
  pub past : s.fields.left ≡ 0 → Passed σ m s₀ z none k × ((rest_of σ m s₀).state ≡ some s)
  past h =
      let e = at-end σ m words s h in (
        record { place = t.place ∙ no_rows σ m s i k e; ended = t.refusal ∙ ap (λ (f : Frame). f.refusal) e },
        t.state ∙ ap (λ (f : Frame). f.state) e,
      )

  module _ (b : List ℕ) (l : length b ≡ 132) (more : 0 < s.fields.left) where
    nonzero : s.fields.left ≡ 0 → ⊥
    nonzero e = omega arith

    pub stops : {r : Refusal} {cells : List ℕ} → called (Err r) cells ≡ row_call σ m s b → Passed σ m s₀ z (some r) k
    stops e =
        let f = refused σ m words s b l nonzero e in
        record { place = t.place ∙ no_rows σ m s i k f; ended = t.refusal ∙ ap (λ (f : Frame). f.refusal) f }

    module _ {d : DrawnRow} {cells : List ℕ} (e : called (Ok d) cells ≡ row_call σ m s b) where
      pub finds : k < d.next.fields.format.lines → locate 0 (rows_of σ m s₀) z ≡ located i k (picture_row σ m s (frame_row d cells))
      finds h = t.place ∙ here σ m words s b l nonzero e i k h

      pub less : d.next.fields.left < s.fields.left
      less = (goes σ m words s b l nonzero e).fewer

      pub turn : d.next.fields.format.lines ≤ k → Turn σ m s₀ z d.next (k - d.next.fields.format.lines) (i + 1)
      turn h = record {
        place = t.place ∙ further σ m words s b l nonzero e i k h;
        refusal = t.refusal ∙ same-refusal σ m words s b l nonzero e;
        state = t.state ∙ same-state σ m words s b l nonzero e;
        numbered = omega (arith, (goes σ m words s b l nonzero e).numbered, t.numbered);
      }

-- what the frame from s₀ on comes to is what the frame from s on comes to
pub record Ending (σ : Settings) (m : List ℕ) (s₀ s : State) : Type 0 where
  pub refusal : (rest_of σ m s₀).refusal ≡ (rest_of σ m s).refusal
  pub state : (rest_of σ m s₀).state ≡ (rest_of σ m s).state

module _ {σ : Settings} {m : List ℕ} (words : Words m) {s₀ s : State} (t : Ending σ m s₀ s) where
  pub end-past : s.fields.left ≡ 0 → ((rest_of σ m s₀).refusal ≡ none) × ((rest_of σ m s₀).state ≡ some s)
  end-past h =
      let e = at-end σ m words s h in
      (t.refusal ∙ ap (λ (f : Frame). f.refusal) e, t.state ∙ ap (λ (f : Frame). f.state) e)

  module _ (b : List ℕ) (l : length b ≡ 132) (more : 0 < s.fields.left) where
    not-zero : s.fields.left ≡ 0 → ⊥
    not-zero e = omega arith

    pub end-stops : {r : Refusal} {cells : List ℕ} → called (Err r) cells ≡ row_call σ m s b → (rest_of σ m s₀).refusal ≡ some r
    end-stops e = t.refusal ∙ ap (λ (f : Frame). f.refusal) (refused σ m words s b l not-zero e)

    module _ {d : DrawnRow} {cells : List ℕ} (e : called (Ok d) cells ≡ row_call σ m s b) where
      pub end-less : d.next.fields.left < s.fields.left
      end-less = (goes σ m words s b l not-zero e).fewer

      pub end-turn : Ending σ m s₀ d.next
      end-turn = record {
        refusal = t.refusal ∙ same-refusal σ m words s b l not-zero e;
        state = t.state ∙ same-state σ m words s b l not-zero e;
      }

-- the cells of an accepted row do not depend on what its buffer held
module _ (σ : Settings) (m : List ℕ) (s : State) where
  one-outcome : (a b : List ℕ) (o : Outcome Row) → accepted_cells (answered σ s.fields a o) ≡ accepted_cells (answered σ s.fields b o)
  one-outcome a b (given n r) = refl
  one-outcome a b (refused-by x) = refl

  pub any_cells : (b : List ℕ) → length b ≡ 132 → accepted_cells (row_call σ m s b) ≡ accepted_cells (row_call σ m s blank)
  unfolding row_call
  any_cells b l = rw l (one-outcome b blank (run m (row_read σ s)))
