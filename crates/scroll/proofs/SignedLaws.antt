-- Small signed numbers and their bits: a shift before a scroll's end is within 39 of 0, 31 and a rate's 8, so that it fits 32 bits.
use mathlib.Core.Path.{◌≡◌, refl, ◌∙◌}
use mathlib.Core.Bool.{Bool, true, false}
use Prim.Native.Nat.{ℕ, zero, suc, ◌≤◌}
use native.Mathlib.Omega.{arith}
use lib.IntN.{ℤ, pos, negsuc, neg_ℤ, nat_abs, ◌-ℤ◌, +ℤ_idl}
use lib.Signed.{non_neg, lt_z}
use lib.Dec.{T}
use borrow.Author.Tests.{ltb-true}
use mir.Syntax.{w32}
use mir.Val.{SFits, Fits, to_z, of_z}
use mir.ValLaws.{to_z-of_z, to_z_pos}
use Rattle.scroll.specs.Scroll.{signed}

pub small : (z : ℤ) → nat_abs z ≤ 39 → SFits w32 z
small (pos n) h = record { sfits = omega arith }
small (negsuc n) h = record { sfits = omega arith }

abs-negative : (z : ℤ) → nat_abs (neg_ℤ z) ≡ nat_abs z
abs-negative (pos zero) = refl
abs-negative (pos (suc n)) = refl
abs-negative (negsuc n) = refl

-- 0 less a small number
module _ (z : ℤ) (h : nat_abs z ≤ 39) where
  pub same : to_z w32 (of_z w32 z) ≡ z
  same = to_z-of_z w32 z (small z h)

  pub negative_fits : SFits w32 (pos 0 -ℤ z)
  negative_fits = rw (+ℤ_idl (neg_ℤ z)) (small (neg_ℤ z) (rw (abs-negative z) h))

  pub negative : to_z w32 (of_z w32 (pos 0 -ℤ z)) ≡ neg_ℤ z
  negative = to_z-of_z w32 (pos 0 -ℤ z) negative_fits ∙ +ℤ_idl (neg_ℤ z)

pub lines_same : (n : ℕ) → n ≤ 39 → to_z w32 n ≡ pos n
lines_same n h = to_z_pos w32 n (omega arith)

-- the lines of a negative number are those of its negative, and of another those of the number
pub negative-lines : (z : ℤ) → lt_z z (pos 0) ≡ true → T (non_neg (neg_ℤ z)) × (nat_abs (neg_ℤ z) ≡ nat_abs z)
negative-lines (pos n) h = absurd (omega (arith, ltb-true n 0 h))
negative-lines (negsuc n) h = (tt, refl)

pub other-lines : (z : ℤ) → lt_z z (pos 0) ≡ false → T (non_neg z)
other-lines (pos n) h = tt
other-lines (negsuc n) h = let z : ◌≡◌ {A = ℕ} 0 1 = cc in absurd (omega arith)

pub lines_fit : (n : ℕ) → n ≤ 39 → Fits w32 n
lines_fit n h = record { fits = omega arith }

-- a shift fits its field
pub signed_same : (up : Bool) (n : ℕ) → n ≤ 39 → to_z w32 (of_z w32 (signed up n)) ≡ signed up n
signed_same true n h = same (pos n) h
signed_same false n h = same (neg_ℤ (pos n)) (rw (abs-negative (pos n)) h)
