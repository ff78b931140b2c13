-- The laws of numbers within their limits.
use mathlib.Core.Path.{◌≡◌, refl, ap, ◌∙◌}
use mathlib.Core.Bool.{Bool, true, false, ◌&&◌}
use mathlib.Core.List.{List, [], ◌∷◌}
use Prim.Native.Nat.{ℕ, suc, ◌+◌, ◌<◌, ◌≤◌}
use native.Mathlib.Nat.{add-zero}
use native.Mathlib.Numerals.{add-one}
use native.Mathlib.Omega.{arith}
use lib.ListN.{length, get_or, drop, drop_of_length-le}
use lib.Seq.{drop-cons, get_or-drop, drop-drop}
use lib.Dec.{leb}
use borrow.Author.Tests.{le-leb, lt-leb, leb-true}
use Rattle.numbers.specs.Places.{within, Below, Within}

left-true : (a b : Bool) → a && b ≡ true → a ≡ true
left-true true b e = refl
left-true false b e = e

right-true : (a b : Bool) → a && b ≡ true → b ≡ true
right-true true b e = e
right-true false b e = cc

and-false : (a : Bool) → false ≡ a && false
and-false true = refl
and-false false = refl

size : (ls xs : List ℕ) → within ls xs ≡ true → length xs ≡ length ls
unfolding within
size [] [] e = refl
size [] (x ∷ xs) e = cc
size (l ∷ ls) [] e = cc
size (l ∷ ls) (x ∷ xs) e = ap suc (size ls xs (right-true (leb x l) (within ls xs) e))

-- another length is not within
pub other-size : (ls xs : List ℕ) → (length xs ≡ length ls → ⊥) → false ≡ within ls xs
unfolding within
other-size [] [] h = absurd (h refl)
other-size [] (x ∷ xs) h = refl
other-size (l ∷ ls) [] h = refl
other-size (l ∷ ls) (x ∷ xs) h = rw (← other-size ls xs (λ e. h (ap suc e))) (and-false (leb x l))

-- the places from i on: the one at i, and those after it
module _ (ls xs : List ℕ) (i : ℕ) (h : i < length ls) (g : i < length xs) where
  step : within (drop i ls) (drop i xs) ≡ leb (get_or xs i 0) (get_or ls i 0) && within (drop (i + 1) ls) (drop (i + 1) xs)
  unfolding within
  step = rw (add-one i, drop-cons ls i 0 h, drop-cons xs i 0 g)

  pub place-within : get_or xs i 0 ≤ get_or ls i 0 → within (drop i ls) (drop i xs) ≡ within (drop (i + 1) ls) (drop (i + 1) xs)
  place-within e = step ∙ rw (le-leb (get_or xs i 0) (get_or ls i 0) e)

  pub place-above : get_or ls i 0 < get_or xs i 0 → within (drop i ls) (drop i xs) ≡ false
  place-above e = step ∙ rw (lt-leb (get_or xs i 0) (get_or ls i 0) e)

pub no_place : (ls xs : List ℕ) (i : ℕ) → length ls ≤ i → length xs ≤ i → within (drop i ls) (drop i xs) ≡ true
unfolding within
no_place ls xs i h g = rw (drop_of_length-le ls h, drop_of_length-le xs g)

-- each place's fact
first : (l : ℕ) (ls ys : List ℕ) → within (l ∷ ls) ys ≡ true → (get_or ys 0 0 ≤ l) × (within ls (drop 1 ys) ≡ true)
unfolding within
first l ls [] e = (omega arith, cc)
first l ls (y ∷ ys) e = (leb-true y l (left-true (leb y l) (within ls ys) e), right-true (leb y l) (within ls ys) e)

below : (i : ℕ) (ls xs : List ℕ) → within ls (drop i xs) ≡ true → Below i ls xs
below i [] xs e = tt
below i (l ∷ ls) xs e =
    let f = first l ls (drop i xs) e in
    (rw (get_or-drop i xs 0 0, add-zero i) at f.0, below (i + 1) ls xs (rw (drop-drop 1 i xs) at f.1))

pub all-within : (ls xs : List ℕ) → within ls xs ≡ true → Within ls xs
all-within ls xs e = (size ls xs e, below 0 ls xs e)
