-- Document 01: "sync + back + active + front = field", in every mode, edition and field; document 02: "a field's parts sum to its length".
use mathlib.Core.Path.{◌≡◌, refl, ap}
use mathlib.Core.Bool.{true}
use Prim.Native.Nat.{◌+◌, ◌-◌, ◌*◌, ◌≤◌}
use native.Mathlib.Nat.{mul-add}
use native.Mathlib.Omega.{arith}
use Rattle.settings.specs.declared.Edition.{Edition}
use Rattle.settings.specs.declared.Edition.TheVariants.{Am8052, Z8052}
use Rattle.settings.specs.declared.Interlace.{Interlace}
use Rattle.settings.specs.declared.Interlace.TheVariants.{Progressive, RepeatField, Video}
use Rattle.settings.specs.declared.Field.{Field}
use Rattle.settings.specs.declared.Field.TheVariants.{Even, Odd}
use Rattle.settings.specs.declared.Settings.{Settings}
use Rattle.settings.specs.Good.{good}
use Rattle.settings.specs.Timing.{timing, parity, added, half_lines}
use Rattle.settings.proofs.GoodLaws.{ordered}

pub parity-small : (field : Field) → parity field ≤ 1
parity-small Even = omega arith
parity-small Odd = omega arith

pub added-small : (edition : Edition) (mode : Interlace) (field : Field) → added edition mode field ≤ 1
added-small Am8052 mode field = omega arith
added-small Z8052 Progressive field = omega arith
added-small Z8052 RepeatField field = parity-small field
added-small Z8052 Video field = parity-small field

module _ (σ : Settings) (field : Field) (e : good σ ≡ true) where
  pub field-sum : (timing σ field).sync + (timing σ field).back + (timing σ field).active + (timing σ field).front ≡ (timing σ field).field
  unfolding timing
  field-sum =
      let o = ordered σ e in
      let a = added-small σ.edition σ.interlace field in
      rw (← mul-add, ← mul-add, ← mul-add) (ap (◌*◌ (half_lines σ.interlace)) (omega arith))

  -- blank rises at the end of the active part
  pub rise-sum : (timing σ field).back + (timing σ field).active ≡ (timing σ field).rise
  unfolding timing
  rise-sum =
      let o = ordered σ e in
      rw (← mul-add) (ap (◌*◌ (half_lines σ.interlace)) (omega arith))

-- where 1 is added, as in the first edition and in mode none, the parts are those of document 01's table
module _ (σ : Settings) (field : Field) where
  pub as-in-01 : added σ.edition σ.interlace field ≡ 1
      → ((timing σ field).back ≡ half_lines σ.interlace * (σ.vsd + 1))
      × ((timing σ field).front ≡ half_lines σ.interlace * (σ.vtot - σ.val))
  unfolding timing
  as-in-01 a =
      let r : σ.vtot + 1 - (σ.val + 1) ≡ σ.vtot - σ.val = omega arith in
      rw (a, r) (refl, refl)

  pub first-edition : σ.edition ≡ Am8052 → added σ.edition σ.interlace field ≡ 1
  first-edition e = rw e

  pub mode-none : σ.interlace ≡ Progressive → added σ.edition σ.interlace field ≡ 1
  mode-none e = rw e (of_none σ.edition)
    where
      of_none : (edition : Edition) → added edition Progressive field ≡ 1
      of_none Am8052 = refl
      of_none Z8052 = refl

-- .. and both fields are the same
pub fields-alike : (σ : Settings) → added σ.edition σ.interlace Even ≡ added σ.edition σ.interlace Odd → timing σ Even ≡ timing σ Odd
unfolding timing
fields-alike σ e = rw e
