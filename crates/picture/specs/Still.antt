-- Shift 0: the picture is the frame. On every line what glides is what stands still, row and scan line, and the shown cells are that
-- row's, bit for bit. And whatever the shift, the rows of a picture are the frame's.
use Rattle.std.specs.Prelude.{ℕ, ◌<◌, ◌≡◌, List, map, ℤ, pos, get_or}
use Rattle.std.proofs.Math.Option.{Option, some}
use Rattle.settings.specs.declared.PointerWords.{PointerWords}
use Rattle.settings.specs.declared.Settings.{Settings}
use Rattle.frame.specs.Frame.{FrameRow, Frame, frame}
use Rattle.panel.specs.Line.{row_at}
use Rattle.picture.specs.Picture.{PictureRow, Picture, picture, heights_of, line_on, still_row, gliding_row, shown_on}

-- document 01: "Memory is a lent slice of 16-bit words"
abbrev pub WordsFit : List ℕ → Type 0
WordsFit m = (i : ℕ) → get_or m i 0 < 65536

-- the row that stands still on line y, and the row that glides there
abbrev pub still_on : Picture → ℕ → Option PictureRow
still_on p y = still_row p (line_on p y).still

abbrev pub gliding_on : Picture → ℕ → Option PictureRow
gliding_on p y = gliding_row p (line_on p y).background

-- ---- the rows ----

-- numbers, formats and cells of a picture's rows are those of a frame's rows, in order; a height is the scan lines of the next state
pub record RowsOf (f : Frame) (p : Picture) : Type 0 where
  pub numbers : map (λ (r : PictureRow). r.number) p.rows ≡ map (λ (r : FrameRow). r.answer.number) f.rows
  pub formats : map (λ (r : PictureRow). r.format) p.rows ≡ map (λ (r : FrameRow). r.answer.format) f.rows
  pub cells : map (λ (r : PictureRow). r.cells) p.rows ≡ map (λ (r : FrameRow). r.cells) f.rows
  pub heights : heights_of p.rows ≡ map (λ (r : FrameRow). r.answer.next.fields.format.lines) f.rows
  pub refusal : p.refusal ≡ f.refusal

abbrev pub HasTheFrame : Type 0
HasTheFrame =
    (shift : ℤ) (soft : PointerWords) (latch : ℕ) (σ : Settings) (m : List ℕ) → RowsOf (frame latch σ m) (picture shift soft latch σ m)

-- ---- the lines ----

pub record Unshifted (p : Picture) (y : ℕ) : Type 0 where
  -- background and still are the same row and scan line
  pub line : (line_on p y).background ≡ row_at (line_on p y).still
  pub row : gliding_on p y ≡ still_on p y
  -- "bit for bit"
  pub cells : (s : PictureRow) → still_on p y ≡ some s → shown_on p y ≡ s.cells

abbrev pub ShowsTheFrame : Type 0
ShowsTheFrame =
    (soft : PointerWords) (latch : ℕ) (σ : Settings) (m : List ℕ) → WordsFit m → (y : ℕ) → Unshifted (picture (pos 0) soft latch σ m) y
