-- Halving, once for each one of a mask, is one shift.
use mathlib.Core.Path.{◌≡◌, ap, sym, ◌∙◌}
use Prim.Native.Nat.{ℕ, zero, suc, ◌/◌, ◌^◌}
use native.Mathlib.Nat.{div-div-eq-div-mul, pow-succ', div-one}
use Rattle.settings.specs.Timing.{halved}

pub halved-shift : (k n : ℕ) → n / 2 ^ k ≡ halved k n
unfolding halved
halved-shift zero n = div-one n
halved-shift (suc k) n = ap (◌/◌ n) (pow-succ' 2 k) ∙ sym (div-div-eq-div-mul n 2 (2 ^ k)) ∙ halved-shift k (n / 2)
