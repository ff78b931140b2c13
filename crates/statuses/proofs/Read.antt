-- An effect that is read from numbers refuses with a number of the effect call's list only.
use Rattle.std.proofs.Common.{Option, Some, None}
use mathlib.Core.Path.{◌≡◌, refl}
use mathlib.Core.Bool.{Bool, true, false, ◌&&◌, ◌||◌, not}
use mathlib.Core.List.{List, ◌∷◌}
use Prim.Native.Nat.{ℕ, zero, suc, ◌<◌, ◌≤◌}
use native.Mathlib.Omega.{arith}
use lib.Dec.{eqb}
use borrow.Author.Tests.{eqb-true, eqb-false}
use Rattle.memory.specs.Word.{when◌then◌else◌, at}
use Rattle.memory.proofs.ReadBounds.{both, if-cases}
use Rattle.codes.specs.Attribute.{ignores}
use Rattle.joining.specs.declared.Part.{Part}
use Rattle.joining.specs.declared.Part.TheVariants.{Keep, Set, Refuse}
use Rattle.joining.specs.declared.Effect.{Effect}
use Rattle.joining.specs.Join.{part_for, apply_part, apply}
use Rattle.numbers.specs.Places.{within}
use Rattle.numbers.proofs.PlaceLaws.{all-within}
use Rattle.numbers.specs.Decode.{yes}
use Rattle.effects.specs.EffectNumbers.{effect_limits, part_at, effect_at, of_effect, part_written, effect_written, effect_in}
use Rattle.effects.specs.AfterEffect.{after_apply}
use Rattle.refusals.specs.Refusals.{effect_numbers, has}
use Rattle.refusals.proofs.Told.{more-told}
use Rattle.statuses.specs.Statuses.{Status}

-- ---- numbers up to a limit ----

abbrev below : ℕ → (ℕ → Bool) → Bool
below zero test = true
below (suc k) test = test k && below k test

passes : (k : ℕ) (test : ℕ → Bool) (n : ℕ) → n < k → below k test ≡ true → test n ≡ true
passes zero test n l h = absurd (omega arith)
passes (suc k) test n l h =
    let e = both (test k) (below k test) h in
    by (eqb n k) refl e.0 (λ less. passes k test n less e.1)
  where
    by : (t : Bool) → eqb n k ≡ t → test k ≡ true → (n < k → test n ≡ true) → test n ≡ true
    by true e now rest = rw (eqb-true n k e) now
    by false e now rest = rest (omega (arith, l, eqb-false n k e))

-- a number of an effect, within its limit, is in the list
abbrev limit : ℕ
limit = at effect_limits 0

listed : (n : ℕ) → n ≤ limit → of_effect n ≡ true → has n effect_numbers ≡ true
listed n l h = if-of (of_effect n) (has n effect_numbers) (passes (suc limit) (λ n. not (of_effect n) || has n effect_numbers) n (omega (arith, l)) refl) h
  where
    if-of : (a b : Bool) → not a || b ≡ true → a ≡ true → b ≡ true
    if-of true b h k = h
    if-of false b h k = let q : ◌≡◌ {A = ℕ} 0 1 = cc in absurd (omega arith)

-- ---- a part that is read ----

abbrev pub Listed : Part → Type 0
Listed Keep = Unit
Listed (Set w) = Unit
Listed (Refuse r) = has r.number effect_numbers ≡ true

part-listed : (number row address from sets word : ℕ) → number ≤ limit → part_written number row address from sets word ≡ true
    → Listed (part_at number row address from sets word)
part-listed number row address from sets word l h = by (eqb number 0) h
  where
    by : (t : Bool)
        → (when t then eqb row 0 && eqb address 0 && eqb from 0 && (yes sets || eqb word 0) else of_effect number && (eqb number 7 || eqb from 0) && eqb sets 0 && eqb word 0) ≡ true
        → Listed (when t then (when yes sets then Set word else Keep) else Refuse (record { number = number; row = row; address = address; from = from }))
    by true h = if-cases Listed (yes sets) (λ _. tt) (λ _. tt)
    by false h =
        let e = (both _ (eqb sets 0) (both _ (eqb word 0) h).0).0 in
        listed number l (both (of_effect number) (eqb number 7 || eqb from 0) e).0

abbrev pub BothListed : Option Effect → Type 0
BothListed (Some e) = Listed e.clear × Listed e.set
BothListed None = Unit

pub effect-listed : (xs : List ℕ) → BothListed (effect_in xs)
unfolding effect_in effect_written effect_at
effect-listed xs = if-cases BothListed (within effect_limits xs) (λ w. fits w) (λ _. tt)
  where
    clear : Bool
    clear = part_written (at xs 0) (at xs 1) (at xs 2) (at xs 3) (at xs 4) (at xs 5)

    set : Bool
    set = part_written (at xs 6) (at xs 7) (at xs 8) (at xs 9) (at xs 10) (at xs 11)

    fits : within effect_limits xs ≡ true → BothListed (effect_written xs)
    fits w =
        let small = (all-within effect_limits xs w).1 in
        if-cases BothListed (clear && set)
        (λ h. let k = both clear set h in (
          part-listed (at xs 0) (at xs 1) (at xs 2) (at xs 3) (at xs 4) (at xs 5) small.0 k.0,
          part-listed (at xs 6) (at xs 7) (at xs 8) (at xs 9) (at xs 10) (at xs 11) (omega arith) k.1,
        ))
        (λ _. tt)

-- ---- applied ----

part-applied : (p : Part) (latch : ℕ) (answer : List ℕ) → Listed p → Status effect_numbers (after_apply answer (apply_part p latch)).status
part-applied Keep latch answer h = refl
part-applied (Set w) latch answer h = refl
part-applied (Refuse r) latch answer h = more-told 0 (255 ∷ effect_numbers) r.number (more-told 255 effect_numbers r.number h)

pub applied : (e : Effect) (latch : ℕ) (answer : List ℕ) → Listed e.clear × Listed e.set
    → Status effect_numbers (after_apply answer (apply e latch)).status
applied e latch answer h = part-applied (part_for (ignores latch) e) latch answer (by (ignores latch))
  where
    by : (t : Bool) → Listed (part_for t e)
    by false = h.0
    by true = h.1
