-- The rows above a picture that is shifted down: row 0 of a start at the soft top, by the definition of a picture. Beside, Ending and
-- EndingCells cite this equation and do not compute the picture again.
use mathlib.Core.Path.{◌≡◌, refl}
use mathlib.Core.List.{List}
use Prim.Native.Nat.{ℕ}
use lib.IntN.{negsuc}
use Rattle.settings.specs.declared.PointerWords.{PointerWords}
use Rattle.settings.specs.declared.Settings.{Settings}
use Rattle.beside.specs.Beside.{with_top}
use Rattle.picture.specs.Picture.{above_row, picture}

pub above-down : (n : ℕ) (soft : PointerWords) (latch : ℕ) (σ : Settings) (m : List ℕ)
    → (picture (negsuc n) soft latch σ m).above ≡ above_row latch (with_top σ soft) m
unfolding picture with_top
above-down n soft latch σ m = refl
