-- The row beside the cut (`beside_call`) is the row of the picture that comes in first: it has the same number, format and cells, and is
-- refused where no row comes in. Their lines differ: there it is given one line, here the shift.
use Rattle.std.specs.Prelude.{ℕ, suc, ◌+◌, ◌<◌, ◌≤◌, ◌≡◌, List, [], ◌∷◌, pos, negsuc, length, Option, Some, None, Result, Ok, Err}
use Rattle.std.proofs.Math.Option.{none, some}
use Rattle.memory.specs.declared.Refusal.{Refusal}
use Rattle.settings.specs.declared.PointerWords.{PointerWords}
use Rattle.settings.specs.declared.Settings.{Settings}
use Rattle.state.specs.declared.State.{State}
use Rattle.frame.specs.Frame.{frame}
use Rattle.beside.specs.declared.BesideRow.{BesideRow}
use Rattle.beside.specs.Beside.{BesideCalled, beside_call}
use Rattle.picture.specs.Picture.{PictureRow, frame_rows, picture, first}
use Rattle.picture.specs.Still.{WordsFit}

-- one row: number, format and cells
pub record OneRow (d : BesideRow) (buffer : List ℕ) (r : PictureRow) : Type 0 where
  pub number : r.number ≡ d.number
  pub format : r.format ≡ d.format
  pub cells : r.cells ≡ buffer

-- the row beside the cut, and the rows that come in: the first of them, or none where it is refused
abbrev pub FirstOf : List PictureRow → Result (Option BesideRow) Refusal → (buffer : List ℕ) → Type 0
FirstOf (r ∷ rs) (Ok (Some d)) buffer = OneRow d buffer r
FirstOf (r ∷ rs) (Err x) buffer = ⊥
FirstOf (r ∷ rs) (Ok None) buffer = ⊥
FirstOf [] (Ok (Some d)) buffer = ⊥
FirstOf [] (Err x) buffer = Unit
FirstOf [] (Ok None) buffer = Unit

abbrev pub IsFirst : BesideCalled → List PictureRow → Type 0
IsFirst c rs = FirstOf rs c.answer c.buffer

-- up and down by some lines
pub record BesideTheCut (soft : PointerWords) (latch : ℕ) (σ : Settings) (m : List ℕ) (last : State) (buffer : List ℕ) : Type 0 where
  -- of an accepted frame that ended with the state `last`, where rows + shift <= 4095: "row + lines left > 4095" is refusal 3
  pub up : (n : ℕ) → (frame latch σ m).refusal ≡ none → (frame latch σ m).state ≡ some last → length (frame latch σ m).rows + suc n ≤ 4095
      → IsFirst (beside_call σ m (pos (suc n)) soft latch last buffer) (picture (pos (suc n)) soft latch σ m).below
  -- of any frame
  pub down : (n : ℕ) → IsFirst (beside_call σ m (negsuc n) soft latch last buffer) (picture (negsuc n) soft latch σ m).above

-- with any row buffer of 132 cells
abbrev pub ComesInBeside : Type 0
ComesInBeside =
    (soft : PointerWords) (latch : ℕ) (σ : Settings) (m : List ℕ) → WordsFit m → (last : State) (buffer : List ℕ) → length buffer ≡ 132
    → BesideTheCut soft latch σ m last buffer

-- rows + shift <= 4095: so it is for a shift below the height of row 0
abbrev pub ShiftFits : Type 0
ShiftFits =
    (latch : ℕ) (σ : Settings) (m : List ℕ) → WordsFit m → (r : PictureRow) → first (frame_rows latch σ m) ≡ some r → (n : ℕ) → n < r.height
    → length (frame latch σ m).rows + n ≤ 4095
