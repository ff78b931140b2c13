-- Shift 0 shows the frame; and what stands still does not depend on the shift.
use Rattle.std.proofs.Common.{Option, Some, None, Result, Ok, Err}
use mathlib.Core.Path.{◌≡◌, refl, ap, sym, ◌∙◌}
use mathlib.Core.List.{List, [], ◌∷◌, ◌++◌, map, append-nil}
use mathlib.Core.Option.{Option as Maybe, some}
use Prim.Native.Nat.{ℕ, ◌+◌}
use native.Mathlib.Omega.{arith}
use lib.IntN.{ℤ, pos}
use lib.ListN.{length, take, drop}
use Rattle.memory.proofs.ReadBounds.{Words}
use Rattle.memory.specs.declared.Refusal.{Refusal}
use Rattle.settings.specs.declared.PointerWords.{PointerWords}
use Rattle.settings.specs.declared.Settings.{Settings}
use Rattle.state.specs.declared.State.{State}
use Rattle.frame.specs.Step.{begin}
use Rattle.frame.specs.Frame.{FrameRow, from_begin, frame}
use Rattle.panel.specs.Line.{place, row_at, background, still, line_at, line}
use Rattle.panel.specs.declared.Place.{Place}
use Rattle.frame.specs.declared.Progress.{Progress}
use Rattle.picture.specs.Picture.{PictureRow, picture_row, picture_rows, begun_rows, frame_rows, Picture, picture, heights_of, line_on, first, still_row, gliding_row, shown_of, shown_on}
use Rattle.picture.specs.Still.{HasTheFrame, still_on, gliding_on, ShowsTheFrame}
use Rattle.picture.proofs.Made.{each_first, frame_made, made-whole}
use Rattle.picture.proofs.Shown.{on-itself}

-- ---- the rows ----

module _ {A : Type 0} (of-picture : PictureRow → A) (of-frame : FrameRow → A) (σ : Settings) (m : List ℕ)
    (same : (s : State) (r : FrameRow) → of-picture (picture_row σ m s r) ≡ of-frame r) where
  rows-map : (s : State) (rs : List FrameRow) → map of-picture (picture_rows σ m s rs) ≡ map of-frame rs
  unfolding picture_rows
  rows-map s [] = refl
  rows-map s (r ∷ rs) = rw (same s r, rows-map r.answer.next rs)

  frame-map : (latch : ℕ) → map of-picture (frame_rows latch σ m) ≡ map of-frame (frame latch σ m).rows
  unfolding frame_rows frame
  frame-map latch = by (begin latch σ m)
    where
      by : (x : Result Progress Refusal) → map of-picture (begun_rows σ m x) ≡ map of-frame (from_begin σ m x).rows
      by (Ok p) = rows-map p.state _
      by (Err r) = refl

pub has-the-frame : HasTheFrame
unfolding picture picture_row
has-the-frame shift soft latch σ m = record {
  numbers = frame-map _ _ σ m (λ s r. refl) latch;
  formats = frame-map _ _ σ m (λ s r. refl) latch;
  cells = frame-map _ _ σ m (λ s r. refl) latch;
  heights = frame-map _ _ σ m (λ s r. refl) latch;
  refusal = refl;
}

-- ---- what stands still ----

pub take-heights : (rs qs : List PictureRow) → take (length rs) (heights_of (rs ++ qs)) ≡ heights_of rs
take-heights [] qs = refl
take-heights (r ∷ rs) qs = ap (◌∷◌ r.height) (take-heights rs qs)

module _ (shift : ℤ) (above : ℕ) (heights : List ℕ) (rows y : ℕ) where
  line-still : (z : Option Place) → (line_at shift above heights rows y z).still ≡ z
  line-still None = refl
  line-still (Some s) = refl

-- the place of the line in the frame's rows
pub still-place : (p : Picture) (y : ℕ) → (line_on p y).still ≡ place (heights_of p.rows) y
unfolding line_on line
still-place p y = line-still _ _ _ _ y _ ∙ ap (λ (hs : List ℕ). place hs y) (take-heights p.rows p.below)

-- ---- shift 0 ----

module _ (above : ℕ) (rs : List PictureRow) (y : ℕ) where
  abbrev heights : List ℕ
  heights = heights_of (rs ++ [])

  same_place : place (take (length rs) heights) y ≡ place heights (y + 0)
  same_place =
      let whole = take-heights rs [] ∙ ap heights_of (sym (append-nil rs)) in
      ap (λ (hs : List ℕ). place hs y) whole ∙ ap (place heights) (omega arith)

  by_place : (z : Option Place) → still heights (length rs) y ≡ z
      → (line_at (pos 0) above heights (length rs) y z).background ≡ row_at (line_at (pos 0) above heights (length rs) y z).still
  unfolding background
  by_place None e = refl
  by_place (Some s) e = ap row_at (sym same_place ∙ e)

  same_line : (line (pos 0) above heights (length rs) y).background ≡ row_at (line (pos 0) above heights (length rs) y).still
  unfolding line
  same_line = by_place (still heights (length rs) y) refl

-- with none below
same_row : (p : Picture) → p.below ≡ [] → (z : Option Place) → gliding_row p (row_at z) ≡ still_row p z
same_row p e None = refl
same_row p e (Some s) = ap (λ (rs : List PictureRow). first (drop s.index rs)) (ap (λ (qs : List PictureRow). p.rows ++ qs) e ∙ append-nil p.rows)

module _ (soft : PointerWords) (latch : ℕ) (σ : Settings) (m : List ℕ) (w : Words m) (y : ℕ) where
  abbrev p : Picture
  p = picture (pos 0) soft latch σ m

  one_line : (line_on p y).background ≡ row_at (line_on p y).still
  unfolding picture line_on
  one_line = same_line _ (frame_rows latch σ m) y

  one-row : gliding_on p y ≡ still_on p y
  unfolding picture
  one-row = ap (gliding_row p) one_line ∙ same_row p refl (line_on p y).still

  whole : (s : PictureRow) (z : Option Place) → still_row p z ≡ some s → length s.cells ≡ 132
  unfolding picture
  whole s None e = let q : ◌≡◌ {A = ℕ} 0 1 = cc in absurd (omega arith)
  whole s (Some z) e = made-whole σ m w (each_first z.index (frame_made σ m w latch) e)

  row-shown : (s : PictureRow) → still_on p y ≡ some s → shown_on p y ≡ s.cells
  unfolding shown_on
  row-shown s e =
      ap (shown_of (still_on p y)) one-row ∙ ap (λ (o : Maybe PictureRow). shown_of o o) e
      ∙ on-itself s.cells _ _ (whole s (line_on p y).still e)

pub shows-the-frame : ShowsTheFrame
shows-the-frame soft latch σ m w y = record {
  line = one_line soft latch σ m w y;
  row = one-row soft latch σ m w y;
  cells = row-shown soft latch σ m w y;
}
