-- The laws by which a proof follows the figures of a row and the totals.
use mathlib.Core.Path.{◌≡◌, refl}
use mathlib.Core.Bool.{true}
use Prim.Native.Nat.{ℕ, ◌+◌, ◌-◌, ◌/◌, ◌^◌, ◌<◌}
use borrow.Author.Tests.{ne_eqb, ltb-true}
use Rattle.memory.proofs.ReadBounds.{both}
use Rattle.bus.specs.declared.Totals.{Totals}
use Rattle.bus.specs.Bus.{burst_space, burst_count, bursts, all_fit}

-- ---- the bursts of a row ----
module _ (burst : ℕ) where
  -- rows of no words take no burst
  pub no_words : bursts burst 0 ≡ 0
  unfolding bursts
  no_words = refl

  module _ (words : ℕ) (read : words ≡ 0 → ⊥) where
    -- a space of 0 is one burst if any word is read
    pub kept-bus : burst_space burst ≡ 0 → bursts burst words ≡ 1
    unfolding bursts
    kept-bus e = rw (ne_eqb words 0 read, e)

    pub rounded-up : (burst_space burst ≡ 0 → ⊥) → bursts burst words ≡ (words + (burst_count burst - 1)) / burst_count burst
    unfolding bursts
    rounded-up s = rw (ne_eqb words 0 read, ne_eqb (burst_space burst) 0 s)

-- ---- the totals ----
pub totals-fit : (t : Totals) → all_fit t ≡ true → (t.words < 2 ^ 64) × (t.bursts < 2 ^ 64) × (t.released < 2 ^ 64)
totals-fit t h =
    let a = both _ _ h in
    let b = both _ _ a.1 in
    (ltb-true _ _ a.0, ltb-true _ _ b.0, ltb-true _ _ b.1)
