-- The heights of a picture's rows, and how the rows of an accepted frame fill the screen.
use Rattle.std.specs.Prelude.{ℕ, ◌+◌, ◌≤◌, ◌≡◌, List, [], ◌∷◌, ℤ}
use Rattle.std.proofs.Math.Option.{none}
use Rattle.settings.specs.declared.PointerWords.{PointerWords}
use Rattle.settings.specs.declared.Settings.{Settings}
use Rattle.settings.specs.Timing.{lines_for_rows}
use Rattle.frame.specs.Frame.{FrameRow, frame}
use Rattle.insertion.specs.Insertion.{lines_of}
use Rattle.picture.specs.Still.{WordsFit}
use Rattle.picture.specs.Picture.{PictureRow, picture, frame_rows, heights_of}

-- rows of 1 to 32 scan lines
abbrev pub Tall : List PictureRow → Type 0
Tall [] = Unit
Tall (r ∷ rs) = (1 ≤ r.height) × (r.height ≤ 32) × Tall rs

-- every row of every picture, of the frame or coming in
abbrev pub RowsAreTall : Type 0
RowsAreTall = (shift : ℤ) (soft : PointerWords) (latch : ℕ) (σ : Settings) (m : List ℕ) → WordsFit m
    → let p = picture shift soft latch σ m in Tall p.rows × Tall p.below × Tall p.above

-- no row takes more lines than it is high
abbrev pub Cut : List FrameRow → Type 0
Cut [] = Unit
Cut (r ∷ rs) = (r.answer.lines ≤ r.answer.next.fields.format.lines) × Cut rs

abbrev pub RowsAreCut : Type 0
RowsAreCut = (latch : ℕ) (σ : Settings) (m : List ℕ) → WordsFit m → Cut (frame latch σ m).rows

-- Rows of some heights that fill n lines, each with its own: all are whole but the last, which may be cut.
pub data Fills : ℕ → (heights lines : List ℕ) → Type 0 where
  empty : Fills 0 [] []
  last : {n h : ℕ} → 1 ≤ n → n ≤ h → Fills n (h ∷ []) (n ∷ [])
  whole : {n h : ℕ} {heights lines : List ℕ} → 1 ≤ n → Fills n heights lines → Fills (h + n) (h ∷ heights) (h ∷ lines)

-- the rows of an accepted frame fill the lines for rows
abbrev pub RowsFill : Type 0
RowsFill = (latch : ℕ) (σ : Settings) (m : List ℕ) → WordsFit m → (frame latch σ m).refusal ≡ none
    → Fills (lines_for_rows σ) (heights_of (frame_rows latch σ m)) (lines_of (frame latch σ m).rows)
