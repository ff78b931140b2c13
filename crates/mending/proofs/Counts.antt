-- How many words are not 0, and the words that are left, after a pointer's two are set to 0.
use mathlib.Core.Path.{◌≡◌, refl, sym, ap, ◌∙◌}
use mathlib.Core.Bool.{Bool, true, false}
use mathlib.Core.List.{List, [], ◌∷◌}
use Prim.Native.Nat.{ℕ, zero, suc, ◌+◌, ◌<◌, ◌≤◌}
use native.Mathlib.Omega.{arith}
use native.Mathlib.Nat.{le_refl}
use lib.ListN.{get_or, set}
use lib.Seq.{get_or-set_other}
use lib.Dec.{eqb}
use borrow.Author.Tests.{ne_eqb, eqb-true, eqb-false}
use Rattle.memory.proofs.ReadBounds.{Words}
use Rattle.mending.specs.Mending.{one, nonzero}

-- a word counts for 1 where it is not 0
pub one_word : (w : ℕ) → (w ≡ 0 → ⊥) → one w ≡ 1
one_word w h = rw (ne_eqb w 0 h)

pub nonzero-set : (m : List ℕ) (i : ℕ) → nonzero (set m i 0) + one (get_or m i 0) ≡ nonzero m
unfolding nonzero
nonzero-set [] i = refl
nonzero-set (x ∷ xs) zero = omega arith
nonzero-set (x ∷ xs) (suc i) = omega (arith, nonzero-set xs i)

-- two words that are not both 0
pub nonzero-fewer : (m : List ℕ) (i j : ℕ) → (get_or m i 0 ≡ 0 → get_or m j 0 ≡ 0 → ⊥) → nonzero (set (set m i 0) j 0) < nonzero m
nonzero-fewer m i j h = by (eqb (get_or m i 0) 0) refl
  where
    first : nonzero (set m i 0) + one (get_or m i 0) ≡ nonzero m
    first = nonzero-set m i

    second : nonzero (set (set m i 0) j 0) + one (get_or (set m i 0) j 0) ≡ nonzero (set m i 0)
    second = nonzero-set (set m i 0) j

    by : (t : Bool) → eqb (get_or m i 0) 0 ≡ t → nonzero (set (set m i 0) j 0) < nonzero m
    by false e = omega (arith, first, second, one_word (get_or m i 0) (eqb-false (get_or m i 0) 0 e))
    by true e =
        let z = eqb-true (get_or m i 0) 0 e in
        let other : (j ≡ i → ⊥) = λ k. h z (ap (λ (n : ℕ). get_or m n 0) k ∙ z) in
        let left = get_or-set_other m i j 0 0 other in
        omega (arith, first, second, one_word (get_or (set m i 0) j 0) (λ k. h z (sym left ∙ k)))

-- no word grows
set-less : (m : List ℕ) (i k : ℕ) → get_or (set m i 0) k 0 ≤ get_or m k 0
set-less [] i k = le_refl 0
set-less (x ∷ xs) zero zero = omega arith
set-less (x ∷ xs) zero (suc k) = le_refl _
set-less (x ∷ xs) (suc i) zero = le_refl x
set-less (x ∷ xs) (suc i) (suc k) = set-less xs i k

pub set_words : (m : List ℕ) (i : ℕ) → Words m → Words (set m i 0)
set_words m i h k = omega (arith, set-less m i k, h k)

-- the other words stay
pub set-stays : (m : List ℕ) (i j k : ℕ) → (k ≡ i → ⊥) → (k ≡ j → ⊥) → get_or (set (set m i 0) j 0) k 0 ≡ get_or m k 0
set-stays m i j k h l = get_or-set_other (set m i 0) j k 0 0 l ∙ get_or-set_other m i k 0 0 h
