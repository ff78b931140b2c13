-- Document 02: "one interlaced field ends on a half line, two on a whole one", since VSW is odd and VTOT even there; in mode none each ends
-- on a whole one. Once over both editions, all modes and both fields.
use mathlib.Core.Path.{◌≡◌, refl, sym, ap, ◌∙◌}
use mathlib.Core.Bool.{true}
use Prim.Native.Nat.{ℕ, zero, suc, ◌+◌, ◌*◌, ◌%◌}
use native.Mathlib.Nat.{mul-suc}
use native.Mathlib.Omega.{arith}
use borrow.Author.Tests.{eqb-true}
use Rattle.settings.specs.declared.Interlace.{Interlace}
use Rattle.settings.specs.declared.Interlace.TheVariants.{Progressive, RepeatField, Video}
use Rattle.settings.specs.declared.Field.{Field}
use Rattle.settings.specs.declared.Field.TheVariants.{Even, Odd}
use Rattle.settings.specs.declared.Settings.{Settings}
use Rattle.settings.specs.Good.{good, fits_fields, fits_mode}
use Rattle.settings.specs.Timing.{timing, half_lines}
use Rattle.settings.specs.Sheet.{sheet_of}
use Rattle.settings.specs.AfterEnable.{field_at, parts_of, after_fields, past}
use Rattle.settings.proofs.GoodLaws.{left-true, right-true}

odd-field : (σ : Settings) → fits_fields σ ≡ true → (σ.vsw + σ.vtot + 2) % 2 ≡ 1
odd-field σ f =
    let v : σ.vsw % 2 ≡ 1 = search (left-true, right-true, eqb-true) depth 8 in
    let t : σ.vtot % 2 ≡ 0 = search (left-true, right-true, eqb-true) depth 8 in
    omega arith

by_mode : (σ : Settings) (mode : Interlace) → fits_mode mode σ ≡ true → half_lines mode * (σ.vsw + σ.vtot + 2) % 2 ≡ half_lines mode % 2
by_mode σ Progressive f = omega arith
by_mode σ RepeatField f = omega (arith, odd-field σ f)
by_mode σ Video f = omega (arith, odd-field σ f)

by_count : (mode : Interlace) (n : ℕ) → half_lines mode * n % 2 ≡ past mode n
by_count Progressive n = omega arith
by_count RepeatField n = omega arith
by_count Video n = omega arith

add-up : (a b c d : ℕ) → a % 2 ≡ c % 2 → b % 2 ≡ d % 2 → (a + b) % 2 ≡ (c + d) % 2
add-up a b c d e f = omega arith

module _ (σ : Settings) (e : good σ ≡ true) where
  fits : fits_mode σ.interlace σ ≡ true
  unfolding good
  fits = search (left-true, right-true) depth 5

  one_field : (field : Field) → (timing σ field).field % 2 ≡ half_lines σ.interlace % 2
  unfolding timing
  one_field field = by_mode σ σ.interlace fits

  counted : (n : ℕ) → after_fields σ n % 2 ≡ half_lines σ.interlace * n % 2
  unfolding after_fields
  counted zero = omega arith
  counted (suc n) =
      add-up (after_fields σ n) (timing σ (field_at n)).field (half_lines σ.interlace * n) (half_lines σ.interlace) (counted n) (one_field (field_at n))
      ∙ ap (λ (k : ℕ). k % 2) (sym (mul-suc (half_lines σ.interlace) n))

  pub fields-end : (n : ℕ) → after_fields σ n % 2 ≡ past σ.interlace n
  fields-end n = counted n ∙ by_count σ.interlace n

-- what the sheet says of a field is that field's
pub sheet-parts : (σ : Settings) (field : Field) → parts_of (sheet_of σ) field ≡ timing σ field
unfolding sheet_of
sheet-parts σ Even = refl
sheet-parts σ Odd = refl
