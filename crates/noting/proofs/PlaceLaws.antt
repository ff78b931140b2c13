-- Addresses at places of a list: one more, those of words one after the other, and places past the list's end.
use mathlib.Core.Path.{◌≡◌, refl, ap, sym, ◌∙◌}
use mathlib.Core.List.{List, [], ◌∷◌}
use mathlib.Core.Bool.{Bool, true, false}
use Prim.Native.Nat.{ℕ, zero, suc, ◌+◌, ◌-◌, ◌*◌, ◌/◌, ◌<◌, ◌≤◌, min}
use native.Mathlib.Omega.{arith}
use lib.ListN.{length, set}
use lib.Seq.{sets, set_out}
use lib.Dec.{leb}
use borrow.Author.Tests.{leb-true, leb-false, le-leb}
use Rattle.memory.specs.Address.{forward, next_word, ahead}
use Rattle.memory.specs.Answers.{is_run}
use Rattle.memory.proofs.ReadBounds.{both}
use Rattle.memory.proofs.RunLaws.{ahead-forward, ahead_more, run_ends}
use Rattle.noting.specs.Noting.{in_turn}

-- the address some words further, where none wraps
pub ahead-sum : (j a : ℕ) → a + 2 * j < 16777216 → ahead true j a ≡ a + 2 * j
unfolding ahead
ahead-sum zero a h = omega arith
ahead-sum (suc j) a h =
    let sum : forward true (2 * suc j) a ≡ a + 2 * suc j = omega arith in
    ahead-forward true j a ∙ sum

-- .. as in a linear run
pub run-low : (linear : Bool) (len a k : ℕ) → linear ≡ true → is_run linear len a k ≡ true → a / 2 + k ≤ 8388608
unfolding is_run
run-low true len a k e h = leb-true _ _ (both (leb (a / 2 + k) len) _ h).1
run-low false len a k e h = let q : ◌≡◌ {A = ℕ} 0 1 = cc in absurd (omega arith)

-- words of a linear run that end no later than it are a run
pub run-part : (linear : Bool) (len a k b j : ℕ) → linear ≡ true → is_run linear len a k ≡ true → b / 2 + j ≤ a / 2 + k
    → is_run linear len b j ≡ true
unfolding is_run
run-part true len a k b j e h less =
    let end = run_ends len a k true h in
    rw (le-leb (b / 2 + j) len (omega arith), le-leb (b / 2 + j) (256 * 32768) (omega (arith, run-low true len a k e h)))
run-part false len a k b j e h less = let q : ◌≡◌ {A = ℕ} 0 1 = cc in absurd (omega arith)

-- nothing is written past the end
sets-out : (l : List ℕ) (i : ℕ) (xs : List ℕ) → length l ≤ i → sets l i xs ≡ l
sets-out l i [] h = refl
sets-out l i (x ∷ xs) h = ap (λ (r : List ℕ). sets r (suc i) xs) (set_out l i x h) ∙ sets-out l (suc i) xs (omega arith)

-- what is left to write from the place i on, of n addresses from the place `at` on
module _ (n a at : ℕ) where
  abbrev pub left_at : ℕ → List ℕ
  left_at i = in_turn true (n - (i - at)) (ahead true (i - at) a)

  pub left-begun : (l : List ℕ) → sets l at (in_turn true n a) ≡ sets l at (left_at at)
  unfolding ahead
  left-begun l =
      let none : at - at ≡ 0 = omega arith in
      let all : n ≡ n - 0 = omega arith in
      ap (λ (k : ℕ). sets l at (in_turn true k a)) all ∙ ap (λ (k : ℕ). sets l at (in_turn true (n - k) (ahead true k a))) (sym none)

  pub left-more : (l : List ℕ) (i : ℕ) → a / 2 + n ≤ 8388608 → at ≤ i → i < at + n
      → sets l i (left_at i) ≡ sets (set l i (a + 2 * (i - at))) (i + 1) (left_at (i + 1))
  unfolding in_turn
  left-more l i fits h k =
      let left : n - (i - at) ≡ suc (n - (i + 1 - at)) = omega arith in
      let next : suc i ≡ i + 1 = omega arith in
      let further : i - at + 1 ≡ i + 1 - at = omega arith in
      let here = ahead true (i - at) a in
      ap (λ (j : ℕ). sets l i (in_turn true j here)) left
      ∙ ap (λ (j : ℕ). sets (set l i here) j (in_turn true (n - (i + 1 - at)) (next_word true here))) next
      ∙ ap (λ (b : ℕ). sets (set l i here) (i + 1) (in_turn true (n - (i + 1 - at)) b)) (sym (ahead_more true (i - at) a))
      ∙ ap (λ (j : ℕ). sets (set l i here) (i + 1) (in_turn true (n - (i + 1 - at)) (ahead true j a))) further
      ∙ ap (λ (b : ℕ). sets (set l i b) (i + 1) (left_at (i + 1))) (ahead-sum (i - at) a (omega arith))

  left-done : (l : List ℕ) (i : ℕ) → at + n ≤ i → sets l i (left_at i) ≡ l
  unfolding in_turn
  left-done l i h =
      let left : n - (i - at) ≡ 0 = omega arith in
      ap (λ (j : ℕ). sets l i (in_turn true j (ahead true (i - at) a))) left

  -- .. where none are left, or the list has no such place
  pub left_cut : (l : List ℕ) (i : ℕ) → min (at + n) (length l) ≤ i → sets l i (left_at i) ≡ l
  left_cut l i h = cases (leb (at + n) i) refl
    where
      cases : (b : Bool) → leb (at + n) i ≡ b → sets l i (left_at i) ≡ l
      cases true e = left-done l i (leb-true (at + n) i e)
      cases false e = sets-out l i (left_at i) (omega (arith, leb-false (at + n) i e))
