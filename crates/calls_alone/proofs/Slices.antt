-- A state's numbers with another latch are those of the state with that latch; a refusal is the first three numbers of any answer.
use Rattle.std.proofs.Common.{Some}
use mathlib.Core.Path.{◌≡◌, refl, ap, ◌∙◌}
use mathlib.Core.Bool.{Bool, true, ◌&&◌}
use mathlib.Core.List.{List, [], ◌∷◌, ◌++◌}
use Prim.Native.Nat.{ℕ, ◌%◌, ◌<◌, ◌≤◌}
use native.Mathlib.Nat.{mod-eq_of_lt}
use native.Mathlib.Omega.{arith}
use lib.ListN.{length, take, drop}
use lib.Dec.{eqb, leb}
use borrow.Author.Tests.{le-leb, leb-true}
use Rattle.memory.specs.Word.{at}
use Rattle.memory.specs.declared.Refusal.{Refusal}
use Rattle.memory.proofs.ReadBounds.{both}
use Rattle.state.specs.declared.Fields.{Fields}
use Rattle.state.specs.State.{state_of}
use Rattle.numbers.specs.Decode.{state_fits, lines_at, format_at, window_at, fields_at, is_state, state_in}
use Rattle.numbers.specs.Encode.{state_numbers}
use Rattle.answers.specs.AnswerNumbers.{with_refusal}
use Rattle.calls_alone.specs.DemandCalls.{with_latch}

-- ---- the latch ----

-- the tests of a state's numbers, of which the first is the latch's
first-test : (n a b c d e f : Bool) → n && (a && b && c && d && e && f) ≡ true → a ≡ true
first-test n a b c d e f h =
    let k = (both n (a && b && c && d && e && f) h).1 in
    (both a b (both (a && b) c (both (a && b && c) d (both (a && b && c && d) e (both (a && b && c && d && e) f k).0).0).0).0).0

module _ (x l : ℕ) (xs : List ℕ) where
  latch-test : is_state (x ∷ xs) ≡ true → leb x 65535 ≡ true
  unfolding is_state
  latch-test h = first-test (eqb (length (x ∷ xs)) 23) (leb x 65535) _ _ _ _ _ h

  still-state : l < 65536 → is_state (x ∷ xs) ≡ true → is_state (l ∷ xs) ≡ true
  unfolding is_state
  still-state k h = rw (le-leb l 65535 (omega (arith, k))) (rw (latch-test h) at h)

  same-fields : fields_at (l ∷ xs) ≡ fields_at (x ∷ xs)
  unfolding fields_at format_at lines_at state_fits window_at
  same-fields = refl

-- a state's first number is its latch
pub first-latch : (xs : List ℕ) → is_state xs ≡ true → at xs 0 < 65536
unfolding is_state
first-latch [] h = omega arith
first-latch (x ∷ xs) h = omega (arith, leb-true x 65535 (latch-test x x xs h))

pub read-state : (xs : List ℕ) → is_state xs ≡ true → state_in xs ≡ Some (state_of (at xs 0) (fields_at xs))
unfolding state_in
read-state xs h =
    let same : at xs 0 % 65536 ≡ at xs 0 = mod-eq_of_lt (omega (arith, first-latch xs h)) in
    rw (h, same)

-- .. and may be another
pub another-latch : (xs : List ℕ) (l : ℕ) → is_state xs ≡ true → l < 65536 → state_in (with_latch l xs) ≡ Some (state_of l (fields_at xs))
unfolding is_state
another-latch [] l h k = let q : ◌≡◌ {A = ℕ} 0 1 = cc in absurd (omega arith)
another-latch (x ∷ xs) l h k =
    read-state (l ∷ xs) (still-state x l xs k h) ∙ ap (λ (f : Fields). Some (state_of l f)) (same-fields x l xs)

pub written-latch : (l k : ℕ) (f : Fields) → with_latch l (state_numbers (state_of k f)) ≡ state_numbers (state_of l f)
unfolding state_numbers
written-latch l k f = refl

-- ---- a refusal ----

shape : (r : Refusal) (xs : List ℕ) → 3 ≤ length xs → with_refusal r xs ≡ r.row ∷ r.address ∷ r.from ∷ drop 3 xs
shape r [] h = absurd (omega arith)
shape r (a ∷ []) h = absurd (omega arith)
shape r (a ∷ b ∷ []) h = absurd (omega arith)
shape r (a ∷ b ∷ c ∷ xs) h = refl

pub same-refusal : (r : Refusal) (xs ys : List ℕ) → 3 ≤ length xs → 3 ≤ length ys → with_refusal r xs ≡ take 3 (with_refusal r ys) ++ drop 3 xs
same-refusal r xs ys h k = rw (shape r xs h, shape r ys k)
