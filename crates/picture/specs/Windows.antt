-- Windows while a frame is shifted. Document 02: "windows stand still." So there is no window text off its place, no background inside a
-- window, and no old text.
use Rattle.std.specs.Prelude.{ℕ, ◌-◌, ◌<◌, ◌≡◌, Bool, true, false, List, ℤ, drop}
use Rattle.std.proofs.Math.Option.{some}
use Rattle.settings.specs.declared.PointerWords.{PointerWords}
use Rattle.settings.specs.declared.Settings.{Settings}
use Rattle.codes.specs.Attribute.{source_of, window_number_of}
use Rattle.panel.specs.Shown.{in_columns, nothing, cell_in, cursor_bit}
use Rattle.picture.specs.Picture.{PictureRow, Picture, picture, line_on, first, layer_of, shown_on}
use Rattle.picture.specs.Still.{WordsFit, still_on}

-- column x of line y: is it one of the columns of the row that stands still there?
abbrev pub in_window : Picture → (y x : ℕ) → Bool
in_window p y x = in_columns (layer_of (still_on p y)).columns x

-- the cell that is shown there, and the cell of the row that stands still
abbrev pub shown_in : Picture → (y x : ℕ) → ℕ
shown_in p y x = cell_in (shown_on p y) x

abbrev pub still_in : Picture → (y x : ℕ) → ℕ
still_in p y x = cell_in (layer_of (still_on p y)).cells x

-- ---- in the columns of the row that stands still ----

-- no background inside a window
abbrev pub ShowsWindows : Type 0
ShowsWindows = (p : Picture) (y x : ℕ) → x < 132 → in_window p y x ≡ true → shown_in p y x ≡ still_in p y x

-- row, scan line and these cells are the same whatever the shift: those of the unshifted frame
pub record SameStill (p q : Picture) (y : ℕ) : Type 0 where
  pub line : (line_on p y).still ≡ (line_on q y).still
  pub row : still_on p y ≡ still_on q y
  pub cells : (x : ℕ) → x < 132 → in_window p y x ≡ true → shown_in p y x ≡ shown_in q y x

abbrev pub WindowsStandStill : Type 0
WindowsStandStill =
    (a b : ℤ) (soft : PointerWords) (latch : ℕ) (σ : Settings) (m : List ℕ) (y : ℕ)
    → SameStill (picture a soft latch σ m) (picture b soft latch σ m) y

-- ---- elsewhere ----

-- "source (0 fill, 1 background, 2 window)"; "In cells of source 2 bits 31..24 hold the window's number along the chain" (02)
abbrev pub NoWindow : ℕ → Type 0
NoWindow c = (source_of c ≡ 2 → ⊥) × (window_number_of c ≡ 0)

-- no window text off its place
abbrev pub NoWindowElsewhere : Type 0
NoWindowElsewhere =
    (shift : ℤ) (soft : PointerWords) (latch : ℕ) (σ : Settings) (m : List ℕ) → WordsFit m → (y x : ℕ) → x < 132
    → in_window (picture shift soft latch σ m) y x ≡ false → NoWindow (shown_in (picture shift soft latch σ m) y x)

-- ---- where every shown cell is from ----

-- a row of the picture: of this frame, or one that comes in
pub data RowIn (p : Picture) (r : PictureRow) : Type 0 where
  of_frame : (i : ℕ) → first (drop i p.rows) ≡ some r → RowIn p r
  of_below : (i : ℕ) → first (drop i p.below) ≡ some r → RowIn p r
  of_above : first p.above ≡ some r → RowIn p r

-- nothing, the cell of such a row, or the one behind its window
pub data From (p : Picture) (x : ℕ) : ℕ → Type 0 where
  dark : From p x nothing
  of_row : {r : PictureRow} → RowIn p r → From p x (cell_in r.cells x)
  behind : {r : PictureRow} → RowIn p r → in_columns r.columns x ≡ true → From p x (cell_in r.behind x)

-- a cell but for bit 22
abbrev pub but_for_cursor : ℕ → ℕ
but_for_cursor c = c - cursor_bit c

-- bit 22 is that of the row that stands still: "the absolute cursor stays"
pub record ShownFrom (p : Picture) (y x : ℕ) : Type 0 where
  pub cell : ℕ
  pub from : From p x cell
  pub same : but_for_cursor (shown_in p y x) ≡ but_for_cursor cell
  pub cursor : cursor_bit (shown_in p y x) ≡ cursor_bit (still_in p y x)

-- no old text
abbrev pub ShowsNothingElse : Type 0
ShowsNothingElse = (p : Picture) (y x : ℕ) → x < 132 → ShownFrom p y x
