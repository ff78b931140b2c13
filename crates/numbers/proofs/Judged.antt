-- Numbers past their fields' range get document 01's number: settings refusal 2, a state refusal 3, with its row as it stands.
use mathlib.Core.Path.{◌≡◌, refl}
use mathlib.Core.Bool.{Bool, true, false, ◌&&◌}
use mathlib.Core.List.{List}
use Prim.Native.Nat.{ℕ, ◌+◌, ◌<◌}
use native.Mathlib.Nat.{min-eq_left, min-eq_right}
use native.Mathlib.Omega.{arith}
use lib.Dec.{ltb, leb}
use borrow.Author.Tests.{leb-true, leb-false, lt-leb, le-ltb}
use Rattle.memory.specs.Word.{at}
use Rattle.settings.specs.declared.Settings.{Settings}
use Rattle.settings.specs.Good as Good
use Rattle.state.specs.State.{in_range}
use Rattle.numbers.specs.Decode.{held, modes_fit, htd_at, settings_at, state_fits, lines_at, format_at, fields_at}

and-false : (a : Bool) → a && false ≡ false
and-false true = refl
and-false false = refl

second-false : (a b c d : Bool) → b ≡ false → a && b && c && d ≡ false
second-false true b c d h = rw h
second-false false b c d h = refl

fourth-false : (a b c d e f : Bool) → d ≡ false → a && b && c && d && e && f ≡ false
fourth-false true true true d e f h = rw h
fourth-false true true false d e f h = refl
fourth-false true false c d e f h = refl
fourth-false false b c d e f h = refl

-- a number that is held is in a range of fewer than 65535, with a number before it too, exactly if it is as it stands
module _ (r n l : ℕ) (h : l < 65535) where
  by_size : (b : Bool) → leb n 65535 ≡ b → leb (r + held n) l ≡ leb (r + n) l
  by_size true e = rw (min-eq_left (leb-true n 65535 e))
  by_size false e =
      let big = leb-false n 65535 e in
      let cut : held n ≡ 65535 = min-eq_right (omega arith) in
      rw (lt-leb (r + n) l (omega arith), cut) (lt-leb (r + 65535) l (omega arith))

  pub held-judged : leb (r + held n) l ≡ leb (r + n) l
  held-judged = by_size (leb n 65535) refl

-- settings with HTD 0 are not good
module _ (σ : Settings) (e : σ.htd ≡ 0) where
  out_of_order : Good.in_order σ ≡ false
  out_of_order =
      fourth-false (ltb σ.vsd σ.val) (leb σ.val σ.vtot) (ltb σ.hsync σ.htc) (ltb σ.hsd σ.htd)
      (leb σ.htd σ.htc) (leb (Good.shown_columns σ) 132) (rw e (le-ltb σ.hsd 0 (omega arith)))

  not_good : Good.good σ ≡ false
  unfolding Good.good
  not_good =
      second-false (Good.in_range σ) (Good.in_order σ) (Good.fits_mode σ.interlace σ) (Good.fits_edition σ.edition σ) out_of_order

module _ (xs : List ℕ) where
  no-htd : modes_fit xs ≡ false → (settings_at xs).htd ≡ 0
  unfolding settings_at htd_at
  no-htd e = rw e

  pub settings-refused : modes_fit xs ≡ false → Good.good (settings_at xs) ≡ false
  settings-refused e = not_good (settings_at xs) (no-htd e)

  pub state-refused : state_fits xs ≡ false → in_range (fields_at xs) ≡ false
  unfolding fields_at format_at lines_at in_range
  state-refused e = rw (e, and-false (leb (at xs 1 + held (at xs 2)) 4095))

  pub state-row : (fields_at xs).row ≡ at xs 1
  unfolding fields_at
  state-row = refl
