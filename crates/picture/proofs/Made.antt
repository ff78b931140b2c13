-- Every row of a picture is an accepted row call, on a state whose fill code is a byte; so it has 132 cells.
use Rattle.std.proofs.Common.{Result, Ok, Err}
use mathlib.Core.Path.{◌≡◌, refl, ap, subst, ◌∙◌}
use mathlib.Core.Bool.{Bool, true, false}
use mathlib.Core.List.{List, [], ◌∷◌, ◌++◌}
use mathlib.Core.Option.{Option, none, some}
use Prim.Native.Nat.{ℕ, zero, suc, ◌+◌, ◌<◌}
use native.Mathlib.Omega.{arith}
use lib.ListN.{length, drop}
use lib.Dec.{eqb}
use Rattle.memory.specs.Word.{when◌then◌else◌}
use Rattle.memory.specs.declared.Refusal.{Refusal}
use Rattle.memory.specs.Reading.{Outcome, given, refused, run}
use Rattle.memory.proofs.ReadBounds.{Words, reads-given, if-cases}
use Rattle.settings.specs.declared.Settings.{Settings}
use Rattle.blocks.specs.declared.FillMode.{FillMode}
use Rattle.state.specs.declared.State.{State}
use Rattle.state.specs.State.{state_of}
use Rattle.start.specs.Start.{start_from, started}
use Rattle.start.proofs.StartBound.{start-reads}
use Rattle.row.specs.Row.{Row, row, with_cursor, answered, row_call}
use Rattle.row.proofs.RowBound.{row-drawn, cursor-length}
use Rattle.frame.specs.declared.Progress.{Progress}
use Rattle.frame.specs.Step.{begun, begin, row_step, Stepped, step}
use Rattle.frame.specs.Frame.{FrameRow, frame_row, Frame, by_answer, by_step, blank, within, rest, from_begin, frame}
use Rattle.picture.specs.Picture.{PictureRow, picture_row, picture_rows, begun_rows, frame_rows, onward, below_of, below_rows, first_row, above_row, first}

-- what holds of each of some rows
pub data Each (P : PictureRow → Type 0) : List PictureRow → Type 0 where
  none_left : Each P []
  and : {r : PictureRow} {rs : List PictureRow} → P r → Each P rs → Each P (r ∷ rs)

pub each_append : {P : PictureRow → Type 0} {rs qs : List PictureRow} → Each P rs → Each P qs → Each P (rs ++ qs)
each_append none_left k = k
each_append (and h hs) k = and h (each_append hs k)

pub each-if : {P : PictureRow → Type 0} (b : Bool) {rs : List PictureRow} → Each P rs → Each P (when b then rs else [])
each-if true h = h
each-if false h = none_left

pub each_first : {P : PictureRow → Type 0} (i : ℕ) {rs : List PictureRow} {r : PictureRow} → Each P rs → first (drop i rs) ≡ some r → P r
each_first {P} zero {r} (and {r = q} h hs) e = let k : q ≡ r = cc in subst P k h
each_first (suc i) (and h hs) e = each_first i hs e
each_first zero none_left e = let z : ◌≡◌ {A = ℕ} 0 1 = cc in absurd (omega arith)
each_first (suc i) none_left e = let z : ◌≡◌ {A = ℕ} 0 1 = cc in absurd (omega arith)

-- an accepted row call
abbrev pub row_from : Settings → State → ℕ → Row → FrameRow
row_from σ s n r =
    frame_row
    (record { number = s.fields.row; lines = r.lines; format = r.format; words = n; next = state_of r.drawing.pen.latch r.next })
    (with_cursor σ s.fields r.drawing.cells)

pub record Made (σ : Settings) (m : List ℕ) (q : PictureRow) : Type 0 where
  pub before : State
  pub words : ℕ
  pub drawn : Row
  pub fill : before.fields.fill.code < 256
  pub accepted : run m (row σ before) ≡ given words drawn
  pub made : q ≡ picture_row σ m before (row_from σ before words drawn)

-- the rows of a frame from a state on, and the state that it ends with
pub record Follows (σ : Settings) (m : List ℕ) (before : State) (f : Frame) : Type 0 where
  pub rows : Each (Made σ m) (picture_rows σ m before f.rows)
  pub end : (s : State) → f.state ≡ some s → s.fields.fill.code < 256

module _ (σ : Settings) (m : List ℕ) (w : Words m) where
  stays : (refusal : Option Refusal) (p : Progress) → p.state.fields.fill.code < 256
      → Follows σ m p.state (record { rows = []; refusal = refusal; words = p.words; state = some p.state })
  unfolding picture_rows
  stays refusal p l = record {
    rows = none_left;
    end = λ s e. let k : p.state ≡ s = cc in subst (λ (s : State). s.fields.fill.code < 256) k l;
  }

  module _ (go_on : Progress → Frame) (follows : (q : Progress) → q.state.fields.fill.code < 256 → Follows σ m q.state (go_on q))
      (p : Progress) (l : p.state.fields.fill.code < 256) where
    by-outcome : (o : Outcome Row) → run m (row σ p.state) ≡ o
        → Follows σ m p.state (by_answer go_on p (row_step p (answered σ p.state.fields blank o).answer) (answered σ p.state.fields blank o).buffer)
    unfolding picture_rows
    by-outcome (given n r) e =
        let same = ap (λ (f : FillMode). f.code) (row-drawn σ m w p.state e).1.fill in
        let rest = follows (record { state = (row_from σ p.state n r).answer.next; words = p.words + n }) (omega arith) in
        record {
          rows = and (record { before = p.state; words = n; drawn = r; fill = l; accepted = e; made = refl }) rest.rows;
          end = rest.end;
        }
    by-outcome (refused x) e = stays (some _) p l

    by-step : Follows σ m p.state (by_step go_on p (step σ m p blank))
    unfolding step row_call
    by-step =
        if-cases (λ (s : Stepped). Follows σ m p.state (by_step go_on p s)) (eqb p.state.fields.left 0) (λ _. stays none p l)
        (λ _. by-outcome (run m (row σ p.state)) refl)

  pub within-follows : (n : ℕ) (p : Progress) → p.state.fields.fill.code < 256 → Follows σ m p.state (within n σ m p)
  unfolding within
  within-follows zero p l = stays none p l
  within-follows (suc n) p l = by-step (within n σ m) (within-follows n) p l

  pub rest-follows : (p : Progress) → p.state.fields.fill.code < 256 → Follows σ m p.state (rest σ m p)
  unfolding rest
  rest-follows p l = within-follows _ p l

  -- a start's state has a byte for its fill code
  pub begun-fill : (latch : ℕ) (p : Progress) → begin latch σ m ≡ Ok p → p.state.fields.fill.code < 256
  unfolding begin
  begun-fill latch p e = by-start (run m (start_from latch σ)) refl e
    where
      by-start : (o : Outcome State) → run m (start_from latch σ) ≡ o → begun (started o) ≡ Ok p → p.state.fields.fill.code < 256
      by-start (given n s) h k =
          let q : s ≡ p.state = ap (λ (p : Progress). p.state) (let i : record { state = s; words = n } ≡ p = cc in i) in
          subst (λ (s : State). s.fields.fill.code < 256) q (reads-given 0 m w (start-reads latch σ) h).1.fill
      by-start (refused x) h k = let z : ◌≡◌ {A = ℕ} 0 1 = cc in absurd (omega arith)

  module _ (latch : ℕ) where
    pub frame_made : Each (Made σ m) (frame_rows latch σ m)
    unfolding frame_rows
    frame_made = by (begin latch σ m) refl
      where
        by : (x : Result Progress Refusal) → begin latch σ m ≡ x → Each (Made σ m) (begun_rows σ m x)
        by (Ok p) e = (rest-follows p (begun-fill latch p e)).rows
        by (Err r) e = none_left

    pub above-made : Each (Made σ m) (above_row latch σ m)
    unfolding above_row
    above-made = by (begin latch σ m) refl
      where
        by : (x : Result Progress Refusal) → begin latch σ m ≡ x → Each (Made σ m) (first_row σ m x)
        by (Ok p) e = (within-follows 1 p (begun-fill latch p e)).rows
        by (Err r) e = none_left

    end-fill : (s : State) → (frame latch σ m).state ≡ some s → s.fields.fill.code < 256
    unfolding frame
    end-fill s = by (begin latch σ m) refl
      where
        by : (x : Result Progress Refusal) → begin latch σ m ≡ x → (from_begin σ m x).state ≡ some s → s.fields.fill.code < 256
        by (Ok p) e h = (rest-follows p (begun-fill latch p e)).end s h
        by (Err r) e h = let z : ◌≡◌ {A = ℕ} 0 1 = cc in absurd (omega arith)

    pub below-made : (n : ℕ) → Each (Made σ m) (below_rows σ m n (frame latch σ m))
    unfolding below_rows
    below-made n = by (frame latch σ m).refusal (frame latch σ m).state refl
      where
        by : (r : Option Refusal) (s : Option State) → (frame latch σ m).state ≡ s → Each (Made σ m) (below_of σ m n r s)
        by none (some s) e = (rest-follows (onward n s) (end-fill s e)).rows
        by none none e = none_left
        by (some r) s e = none_left

  pub made-whole : {q : PictureRow} → Made σ m q → length q.cells ≡ 132
  unfolding picture_row
  made-whole r =
      ap (λ (q : PictureRow). length q.cells) r.made ∙ cursor-length σ r.before.fields r.drawn.drawing.cells ∙ (row-drawn σ m w r.before r.accepted).1.whole
