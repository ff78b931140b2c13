-- A mode's number is read back as the mode, and a number within its range is its mode's.
use mathlib.Core.Path.{◌≡◌, refl}
use Prim.Native.Nat.{ℕ, zero, suc, ◌≤◌}
use native.Mathlib.Omega.{arith}
use Rattle.settings.specs.declared.Interlace.{Interlace}
use Rattle.settings.specs.declared.Interlace.TheVariants.{Progressive, RepeatField, Video}
use Rattle.settings.specs.Good.{interlace_number, interlace_of}

pub mode-again : (i : Interlace) → interlace_of (interlace_number i) ≡ i
mode-again Progressive = refl
mode-again RepeatField = refl
mode-again Video = refl

pub number-again : (n : ℕ) → n ≤ 2 → interlace_number (interlace_of n) ≡ n
number-again zero h = refl
number-again (suc zero) h = refl
number-again (suc (suc zero)) h = refl
number-again (suc (suc (suc n))) h = absurd (omega arith)
