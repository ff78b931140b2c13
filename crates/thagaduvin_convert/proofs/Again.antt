-- A caller who draws next hands in the numbers that an accepted call left: they are read as the settings that were turned.
use Rattle.std.proofs.Common.{Some}
use mathlib.Core.Path.{◌≡◌, refl}
use mathlib.Core.Bool.{Bool, true, false, ◌&&◌}
use mathlib.Core.List.{List, [], ◌∷◌}
use Prim.Native.Nat.{ℕ, zero, suc, ◌%◌}
use native.Mathlib.Omega.{arith}
use native.Mathlib.Nat.{mod-eq_of_lt}
use lib.ListN.{length}
use lib.Dec.{leb}
use borrow.Author.Tests.{le-leb}
use Rattle.settings.specs.Good.{good}
use Rattle.numbers.specs.Decode.{modes_fit, htd_at, settings_at, settings_in}
use Rattle.numbers.proofs.Judged.{settings-refused}
use Rattle.converter.specs.Converter.{turned_first, turned_settings}
use Rattle.thagaduvin_convert.specs.ConvertCalls.{settings_after}

-- what holds of n numbers, whatever they are, holds of every list of n
abbrev OfAll : ℕ → (List ℕ → Type 0) → Type 0
OfAll zero P = P []
OfAll (suc n) P = (x : ℕ) → OfAll n (λ xs. P (x ∷ xs))

of-all : (n : ℕ) (P : List ℕ → Type 0) → OfAll n P → (xs : List ℕ) → length xs ≡ n → P xs
of-all zero P h [] e = h
of-all zero P h (x ∷ xs) e = absurd (omega arith)
of-all (suc n) P h [] e = absurd (omega arith)
of-all (suc n) P h (x ∷ xs) e = of-all n (λ ys. P (x ∷ ys)) (h x) xs (omega arith)

-- a turned word has 7 bits
turned-held : (w : ℕ) → turned_first w % 65536 ≡ turned_first w
turned-held w = mod-eq_of_lt (omega arith)

turned-fits : (w : ℕ) → leb (turned_first w) 65535 ≡ true
turned-fits w = le-leb (turned_first w) 65535 (omega arith)

-- of ten tests that are met, the first, the seventh and the ninth become others that are
last-five : (r g h i j : Bool) → r && g && h && i && j ≡ true → r && true && h && true && j ≡ true
last-five true true true true j e = e
last-five true true true false j e = cc
last-five true true false i j e = cc
last-five true false h i j e = cc
last-five false g h i j e = cc

tests : (a b c d e f g h i j : Bool) → a && b && c && d && e && f && g && h && i && j ≡ true
    → b && c && d && e && f && true && h && true && j ≡ true
tests true b c d e f g h i j met = last-five (b && c && d && e && f) g h i j met
tests false b c d e f g h i j met = cc

abbrev Read : List ℕ → Type 0
Read xs = modes_fit xs ≡ true → settings_in (settings_after (turned_settings (settings_at xs)) xs) ≡ Some (turned_settings (settings_at xs))

eighteen : OfAll 18 Read
unfolding settings_in settings_after settings_at turned_settings htd_at modes_fit
eighteen a b c d e f g h i j k l m n o p q r met =
    rw (
      turned-fits (f % 65536),
      turned-fits (h % 65536),
      tests (leb a 1) (leb b 1) (leb d 1) (leb r 1) (leb c 2) (leb e 65535) (leb f 65535) (leb g 65535) (leb h 65535) (leb i 65535) met,
      met,
      turned-held (f % 65536),
      turned-held (h % 65536),
    )

-- good settings, as a conversion accepts them
pub again : (xs : List ℕ) → length xs ≡ 18 → good (settings_at xs) ≡ true
    → settings_in (settings_after (turned_settings (settings_at xs)) xs) ≡ Some (turned_settings (settings_at xs))
again xs l g = by (modes_fit xs) refl
  where
    by : (t : Bool) → modes_fit xs ≡ t → settings_in (settings_after (turned_settings (settings_at xs)) xs) ≡ Some (turned_settings (settings_at xs))
    by true e = of-all 18 Read eighteen xs l e
    by false e = let refused = settings-refused xs e in cc
