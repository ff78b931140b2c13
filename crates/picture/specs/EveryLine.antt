-- Where every line of the screen has a background.
use Rattle.std.specs.Prelude.{ℕ, ◌+◌, ◌-◌, ◌≤◌, ◌<◌, ◌≡◌, true, List, [], ◌∷◌, ℤ, pos, nat_abs}
use Rattle.std.proofs.Math.Option.{Option, none, some}
use Rattle.std.specs.Int.Signed.{lt_z}
use Rattle.memory.specs.declared.Refusal.{Refusal}
use Rattle.settings.specs.declared.PointerWords.{PointerWords}
use Rattle.settings.specs.declared.Settings.{Settings}
use Rattle.settings.specs.Timing.{lines_for_rows}
use Rattle.state.specs.declared.State.{State}
use Rattle.frame.specs.Frame.{rest, frame}
use Rattle.insertion.specs.Insertion.{lines_of}
use Rattle.panel.specs.declared.Background.TheVariants.{Nothing}
use Rattle.panel.specs.Line.{is_down}
use Rattle.picture.specs.Picture.{PictureRow, Picture, onward, picture, height_above, heights_of, line_on}
use Rattle.picture.specs.Still.{WordsFit}

-- of `lines` lines of the screen
abbrev pub Everywhere : (lines : ℕ) → Picture → Type 0
Everywhere lines p = (y : ℕ) → y < lines → (line_on p y).background ≡ Nothing → ⊥

-- the refusal of the rows below, of a frame that ended with some state
abbrev pub refusal_below : Settings → List ℕ → ℕ → Option State → Option Refusal
refusal_below σ m n none = none
refusal_below σ m n (some s) = (rest σ m (onward n s)).refusal

-- "Frame and all rows that come in accepted, and down |shift| <= the height of the row above: every line has a background."
abbrev pub EveryLine : Type 0
EveryLine = (shift : ℤ) (soft : PointerWords) (latch : ℕ) (σ : Settings) (m : List ℕ) → WordsFit m
    → let p = picture shift soft latch σ m in
    p.refusal ≡ none
    → (lt_z (pos 0) shift ≡ true → refusal_below σ m (nat_abs shift) (frame latch σ m).state ≡ none)
    → (is_down shift ≡ true → nat_abs shift ≤ height_above p.above)
    → Everywhere (lines_for_rows σ) p

-- the same picture with one of the rows below
abbrev pub only_first : List PictureRow → List PictureRow
only_first [] = []
only_first (r ∷ rs) = r ∷ []

abbrev pub with_one_below : Picture → Picture
with_one_below p = record { shift = p.shift; above = p.above; rows = p.rows; below = only_first p.below; refusal = p.refusal }

-- the last of some numbers, n where there is none
unfoldable pub last_of : ℕ → List ℕ → ℕ
last_of n [] = n
last_of n (x ∷ xs) = last_of x xs

-- "One row below is enough exactly where shift <= (height of the last row - its lines) + height of the row below."
abbrev pub OneIsEnough : Type 0
OneIsEnough = (shift : ℤ) (soft : PointerWords) (latch : ℕ) (σ : Settings) (m : List ℕ) → WordsFit m → 1 ≤ lines_for_rows σ
    → let p = picture shift soft latch σ m in
    p.refusal ≡ none → lt_z (pos 0) shift ≡ true
    → let most = last_of 0 (heights_of p.rows) - last_of 0 (lines_of (frame latch σ m).rows) + height_above p.below in
    (Everywhere (lines_for_rows σ) (with_one_below p) → nat_abs shift ≤ most) × (nat_abs shift ≤ most → Everywhere (lines_for_rows σ) (with_one_below p))
