-- A caller who calls again hands in the numbers that the call left: they are read as the settings after the change.
use Rattle.std.proofs.Common.{Some}
use mathlib.Core.Path.{◌≡◌, refl, ap, ◌∙◌}
use mathlib.Core.Bool.{Bool, true, ◌&&◌}
use mathlib.Core.List.{List}
use Prim.Native.Nat.{ℕ}
use native.Mathlib.Omega.{arith}
use lib.ListN.{length, set, length-set}
use lib.Seq.{get_or-set_same, get_or-set_other}
use lib.Dec.{leb}
use borrow.Author.Tests.{eq-eqb}
use Rattle.memory.specs.Word.{at}
use Rattle.memory.proofs.ReadBounds.{both}
use Rattle.settings.specs.declared.Settings.{Settings}
use Rattle.numbers.specs.Decode.{modes_fit, htd_at, settings_at, settings_in}
use Rattle.blame.specs.declared.Place.{Place}
use Rattle.blame.specs.declared.Place.TheVariants.{Register, Memory}
use Rattle.mending.specs.Mending.{settings_after}
use Rattle.thagaduvin_mend.specs.MendCalls.{tow_after}

module _ (xs : List ℕ) (l : length xs ≡ 18) where
  abbrev ys : List ℕ
  ys = set (set xs 7 0) 8 0

  other : (k : ℕ) → (k ≡ 7 → ⊥) → (k ≡ 8 → ⊥) → at ys k ≡ at xs k
  other k h g = get_or-set_other (set xs 7 0) 8 k 0 0 g ∙ get_or-set_other xs 7 k 0 0 h

  first : at ys 7 ≡ 0
  first = get_or-set_other (set xs 7 0) 8 7 0 0 (λ e. omega arith) ∙ get_or-set_same xs 7 0 0 (omega arith)

  second : at ys 8 ≡ 0
  second = get_or-set_same (set xs 7 0) 8 0 0 (omega (arith, length-set xs 7 0))

  -- the tests of the places that stay
  abbrev others : Bool
  others =
      leb (at xs 0) 1 && leb (at xs 1) 1 && leb (at xs 3) 1 && leb (at xs 17) 1 && leb (at xs 2) 2
      && leb (at xs 4) 65535 && leb (at xs 5) 65535 && leb (at xs 6) 65535

  -- 0 is in the range of TOW's words
  fit : modes_fit xs ≡ true → modes_fit ys ≡ true
  unfolding modes_fit
  fit h =
      rw (
        other 0 (λ (e : 0 ≡ 7). omega arith) (λ (e : 0 ≡ 8). omega arith),
        other 1 (λ (e : 1 ≡ 7). omega arith) (λ (e : 1 ≡ 8). omega arith),
        other 2 (λ (e : 2 ≡ 7). omega arith) (λ (e : 2 ≡ 8). omega arith),
        other 3 (λ (e : 3 ≡ 7). omega arith) (λ (e : 3 ≡ 8). omega arith),
        other 4 (λ (e : 4 ≡ 7). omega arith) (λ (e : 4 ≡ 8). omega arith),
        other 5 (λ (e : 5 ≡ 7). omega arith) (λ (e : 5 ≡ 8). omega arith),
        other 6 (λ (e : 6 ≡ 7). omega arith) (λ (e : 6 ≡ 8). omega arith),
        other 17 (λ (e : 17 ≡ 7). omega arith) (λ (e : 17 ≡ 8). omega arith),
        first,
        second,
        (both others (leb (at xs 7) 65535) (both (others && leb (at xs 7) 65535) (leb (at xs 8) 65535) h).0).0,
      )

  cleared : modes_fit xs ≡ true → settings_at ys ≡ settings_after Register (settings_at xs)
  unfolding settings_at settings_after htd_at
  cleared h =
      rw (
        fit h,
        h,
        other 0 (λ (e : 0 ≡ 7). omega arith) (λ (e : 0 ≡ 8). omega arith),
        other 1 (λ (e : 1 ≡ 7). omega arith) (λ (e : 1 ≡ 8). omega arith),
        other 2 (λ (e : 2 ≡ 7). omega arith) (λ (e : 2 ≡ 8). omega arith),
        other 3 (λ (e : 3 ≡ 7). omega arith) (λ (e : 3 ≡ 8). omega arith),
        other 4 (λ (e : 4 ≡ 7). omega arith) (λ (e : 4 ≡ 8). omega arith),
        other 5 (λ (e : 5 ≡ 7). omega arith) (λ (e : 5 ≡ 8). omega arith),
        other 6 (λ (e : 6 ≡ 7). omega arith) (λ (e : 6 ≡ 8). omega arith),
        other 9 (λ (e : 9 ≡ 7). omega arith) (λ (e : 9 ≡ 8). omega arith),
        other 10 (λ (e : 10 ≡ 7). omega arith) (λ (e : 10 ≡ 8). omega arith),
        other 11 (λ (e : 11 ≡ 7). omega arith) (λ (e : 11 ≡ 8). omega arith),
        other 12 (λ (e : 12 ≡ 7). omega arith) (λ (e : 12 ≡ 8). omega arith),
        other 13 (λ (e : 13 ≡ 7). omega arith) (λ (e : 13 ≡ 8). omega arith),
        other 14 (λ (e : 14 ≡ 7). omega arith) (λ (e : 14 ≡ 8). omega arith),
        other 15 (λ (e : 15 ≡ 7). omega arith) (λ (e : 15 ≡ 8). omega arith),
        other 16 (λ (e : 16 ≡ 7). omega arith) (λ (e : 16 ≡ 8). omega arith),
        other 17 (λ (e : 17 ≡ 7). omega arith) (λ (e : 17 ≡ 8). omega arith),
        first,
        second,
      )

-- numbers in the ranges of their fields, read again
pub again : (xs : List ℕ) → length xs ≡ 18 → modes_fit xs ≡ true → (p : Place) → settings_in (tow_after p xs) ≡ Some (settings_after p (settings_at xs))
unfolding settings_in tow_after settings_after
again xs l h Register =
    rw (eq-eqb (length (ys xs l)) 18 (length-set (set xs 7 0) 8 0 ∙ length-set xs 7 0 ∙ l)) (ap Some (cleared xs l h))
again xs l h (Memory a) = rw (eq-eqb (length xs) 18 l) (ap Some (same (settings_at xs)))
  where
    same : (σ : Settings) → σ ≡ settings_after (Memory a) σ
    same σ = refl
