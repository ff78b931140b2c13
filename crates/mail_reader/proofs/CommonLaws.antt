-- The longest beginning that two texts share.
use mathlib.Core.Path.{◌≡◌}
use mathlib.Core.List.{List, [], ◌∷◌}
use Prim.Native.Nat.{ℕ, suc, ◌+◌, ◌<◌, ◌≤◌, min}
use native.Mathlib.Omega.{arith}
use native.Mathlib.Numerals.{add-one}
use lib.ListN.{length, get_or, drop, length-drop}
use lib.Seq.{drop-cons}
use lib.Dec.{eqb}
use borrow.Author.Tests.{eq-eqb, ne_eqb}
use Rattle.memory.proofs.ReadBounds.{if-cases}
use Rattle.mail_reader.specs.Reader.{common}

pub common-left : (s t : List ℕ) → common s t ≤ length s
unfolding common
common-left [] t = omega arith
common-left (a ∷ s) [] = omega arith
common-left (a ∷ s) (b ∷ t) = if-cases (λ (n : ℕ). n ≤ suc (length s)) (eqb a b) (λ _. omega (arith, common-left s t)) (λ _. omega arith)

pub common-right : (s t : List ℕ) → common s t ≤ length t
unfolding common
common-right [] t = omega arith
common-right (a ∷ s) [] = omega arith
common-right (a ∷ s) (b ∷ t) = if-cases (λ (n : ℕ). n ≤ suc (length t)) (eqb a b) (λ _. omega (arith, common-right s t)) (λ _. omega arith)

-- from the place i on: one more byte, another byte, and the end of either
module _ (s t : List ℕ) (i : ℕ) where
  pub same_byte : i < length s → i < length t → get_or s i 0 ≡ get_or t i 0
      → common (drop i s) (drop i t) ≡ suc (common (drop (i + 1) s) (drop (i + 1) t))
  unfolding common
  same_byte h g e = rw (drop-cons s i 0 h, drop-cons t i 0 g, eq-eqb (get_or s i 0) (get_or t i 0) e, add-one i)

  pub other_byte : i < length s → i < length t → (get_or s i 0 ≡ get_or t i 0 → ⊥) → common (drop i s) (drop i t) ≡ 0
  unfolding common
  other_byte h g e = rw (drop-cons s i 0 h, drop-cons t i 0 g, ne_eqb (get_or s i 0) (get_or t i 0) e)

  pub one-ends : min (length s) (length t) ≤ i → common (drop i s) (drop i t) ≡ 0
  one-ends h = omega (arith, common-left (drop i s) (drop i t), common-right (drop i s) (drop i t), length-drop i s, length-drop i t)
