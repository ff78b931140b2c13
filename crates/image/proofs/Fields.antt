-- The settings of an image, field by field: each register in the fields that it holds.
use mathlib.Core.Path.{◌≡◌, refl, sym, ap, ◌∙◌}
use mathlib.Core.Bool.{Bool, true, false}
use mathlib.Core.List.{List, [], ◌∷◌}
use Prim.Native.Nat.{ℕ, zero, suc, ◌+◌, ◌*◌, ◌/◌, ◌%◌, ◌^◌, ◌<◌, ◌≤◌}
use native.Mathlib.Omega.{arith}
use native.Mathlib.Numerals.{add-one}
use lib.ListN.{length, get_or, set, drop}
use lib.Seq.{get_or-set_same, get_or-set_other, drop-cons, drop-length}
use lib.Dec.{eqb}
use borrow.Author.Tests.{eq-eqb, ne_eqb, eqb-true, eqb-false}
use Rattle.memory.specs.Word.{when◌then◌else◌, bit}
use Rattle.settings.specs.declared.Edition.TheVariants.{Am8052}
use Rattle.settings.specs.declared.Interlace.{Interlace}
use Rattle.settings.specs.declared.Interlace.TheVariants.{Progressive, RepeatField, Video}
use Rattle.settings.specs.declared.Settings.{Settings}
use Rattle.settings.specs.Good.{interlace_number}
use Rattle.settings.proofs.InterlaceLaws.{mode-again, number-again}
use Rattle.script.specs.Records.{interlace_bits, switched, registered}
use Rattle.script.specs.Script.{unset}
use Rattle.image.specs.Image.{as_bit, switches_of, image_of, registered_from, settings_of}
use Rattle.image.proofs.Invariants.{either}

-- ---- the switches ----
bit-small : (b : Bool) → as_bit b ≤ 1
bit-small true = omega arith
bit-small false = omega arith

mode_small : (i : Interlace) → interlace_number i ≤ 2
mode_small Progressive = omega arith
mode_small RepeatField = omega arith
mode_small Video = omega arith

bit-again : (b : Bool) (n : ℕ) → n ≡ as_bit b → eqb n 1 ≡ b
bit-again true n e = eq-eqb n 1 e
bit-again false n e = ne_eqb n 1 (λ z. omega arith)

module _ (σ : Settings) where
  linear-again : bit 0 (switches_of σ) ≡ σ.linear
  unfolding switches_of
  linear-again = bit-again σ.linear (switches_of σ / 2 ^ 0 % 2) (omega (arith, bit-small σ.linear))

  hidden-again : bit 1 (switches_of σ) ≡ σ.hidden
  unfolding switches_of
  hidden-again = bit-again σ.hidden (switches_of σ / 2 ^ 1 % 2) (omega (arith, bit-small σ.linear, bit-small σ.hidden))

  mode-bits : interlace_bits (switches_of σ) ≡ interlace_number σ.interlace
  unfolding switches_of
  mode-bits = omega (arith, bit-small σ.linear, bit-small σ.hidden, mode_small σ.interlace)

  cursor-again : bit 4 (switches_of σ) ≡ σ.cursor
  unfolding switches_of
  cursor-again =
      bit-again σ.cursor (switches_of σ / 2 ^ 4 % 2)
      (omega (arith, bit-small σ.linear, bit-small σ.hidden, mode_small σ.interlace, bit-small σ.cursor))

  pub switches-small : switches_of σ < 32
  unfolding switches_of
  switches-small = omega (arith, bit-small σ.linear, bit-small σ.hidden, mode_small σ.interlace, bit-small σ.cursor)

  pub interlace-small : interlace_bits (switches_of σ) < 3
  interlace-small = omega (arith, mode-bits, mode_small σ.interlace)

-- an accepted record of switches has its bits 4 to 0 in the image
number_of : (n : ℕ) → n < 2 → as_bit (eqb n 1) ≡ n
number_of zero h = refl
number_of (suc zero) h = refl
number_of (suc (suc n)) h = absurd (omega arith)

low_bits : (n : ℕ) → n / 2 ^ 0 % 2 + 2 * (n / 2 ^ 1 % 2) ≡ n % 4
low_bits n = omega arith

four-bits : (n : ℕ) → n % 4 + 4 * (n / 4 % 4) ≡ n % 16
four-bits n = omega arith

five-bits : (n : ℕ) → n % 16 + 16 * (n / 2 ^ 4 % 2) ≡ n % 32
five-bits n = omega arith

pub switches-again : (n : ℕ) (σ : Settings) → interlace_bits n < 3 → switches_of (switched n σ) ≡ n % 32
unfolding switches_of switched
switches-again n σ h =
    rw (number_of (n / 2 ^ 0 % 2) (omega arith), number_of (n / 2 ^ 1 % 2) (omega arith), number_of (n / 2 ^ 4 % 2) (omega arith))
    (rw (number-again (interlace_bits n) (omega arith), low_bits n, four-bits n) (five-bits n))

-- ---- the fields ----
-- settings whose switches and edition are those of others, and whose other fields are by registers
abbrev pub with_fields : (ℕ → ℕ) → Settings → Settings
with_fields r σ = record {
  linear = σ.linear;
  hidden = σ.hidden;
  interlace = σ.interlace;
  cursor = σ.cursor;
  flag = r 0x08;
  top = record { first = r 0x09; second = r 0x0a };
  tow = record { first = r 0x0b; second = r 0x0c };
  vsw = r 0x11 % 64;
  vsd = r 0x11 / 64 % 64;
  val = r 0x12 % 4096;
  vtot = r 0x13 % 4096;
  hsync = r 0x14 % 256;
  hsd = r 0x16 % 512;
  htc = r 0x17 % 1024;
  htd = r 0x18 % 1024;
  edition = σ.edition;
}

abbrev pub at : List ℕ → ℕ → ℕ
at rs r = get_or rs r 0

-- a list's n values from number i on, each in turn
abbrev pub spelled : ℕ → ℕ → List ℕ → List ℕ
spelled zero i rs = []
spelled (suc n) i rs = get_or rs i 0 ∷ spelled n (i + 1) rs

spell : (n i : ℕ) (rs : List ℕ) → i + n ≡ length rs → drop i rs ≡ spelled n i rs
spell zero i rs e =
    let l : i ≡ length rs = omega arith in
    rw l (drop-length rs)
spell (suc n) i rs e =
    let more = spell n (i + 1) rs (omega arith) in
    rw (drop-cons rs i 0 (omega arith), ← add-one i) (ap (λ (xs : List ℕ). get_or rs i 0 ∷ xs) more)

pub all-spelled : (rs : List ℕ) → length rs ≡ 25 → rs ≡ spelled 25 0 rs
all-spelled rs e = spell 25 0 rs (sym e)

pub fields : (rs : List ℕ) → length rs ≡ 25 → (σ : Settings) → registered_from 0 rs σ ≡ with_fields (at rs) σ
unfolding registered_from registered
fields rs e σ = ap (λ (xs : List ℕ). registered_from 0 xs σ) (all-spelled rs e)

-- a register that is set
pub at_set : (rs : List ℕ) (a v i : ℕ) → i < length rs → at (set rs a v) i ≡ (when eqb a i then v else at rs i)
at_set rs a v i h =
    either (eqb a i)
    (λ e. rw e (rw (eqb-true a i e) (get_or-set_same rs i v 0 h)))
    (λ e. rw e (get_or-set_other rs a i v 0 (λ z. eqb-false a i e (sym z))))

choice : (f : ℕ → ℕ) (b : Bool) (x y : ℕ) → f (when b then x else y) ≡ (when b then f x else f y)
choice f true x y = refl
choice f false x y = refl

pub fields-set : (rs : List ℕ) → length rs ≡ 25 → (a v : ℕ) (σ : Settings)
    → with_fields (at (set rs a v)) (registered a v σ) ≡ registered a v (with_fields (at rs) σ)
unfolding registered
fields-set rs e a v σ =
    let is : (i : ℕ) → i < 25 → at (set rs a v) i ≡ (when eqb a i then v else at rs i) = λ i h. at_set rs a v i (omega arith) in
    rw (is 0x08 (omega arith), is 0x09 (omega arith), is 0x0a (omega arith), is 0x0b (omega arith), is 0x0c (omega arith))
    (rw (is 0x11 (omega arith), is 0x12 (omega arith), is 0x13 (omega arith), is 0x14 (omega arith))
    (rw (is 0x16 (omega arith), is 0x17 (omega arith), is 0x18 (omega arith))
    (rw (choice (λ x. x % 64) (eqb a 0x11) v (at rs 0x11), choice (λ x. x / 64 % 64) (eqb a 0x11) v (at rs 0x11))
    (rw (choice (λ x. x % 4096) (eqb a 0x12) v (at rs 0x12), choice (λ x. x % 4096) (eqb a 0x13) v (at rs 0x13), choice (λ x. x % 256) (eqb a 0x14) v (at rs 0x14))
    (rw (choice (λ x. x % 512) (eqb a 0x16) v (at rs 0x16), choice (λ x. x % 1024) (eqb a 0x17) v (at rs 0x17), choice (λ x. x % 1024) (eqb a 0x18) v (at rs 0x18)))))))

-- settings whose fields are by registers are the settings of their image
pub settings-of : (σ : Settings) (rs m : List ℕ) → length rs ≡ 25 → σ.edition ≡ Am8052 → σ ≡ with_fields (at rs) σ → settings_of (image_of σ rs m) ≡ σ
unfolding settings_of switched unset
settings-of σ rs m e first h =
    fields rs e (switched (switches_of σ) unset)
    ∙ rw (linear-again σ, hidden-again σ, mode-bits σ, mode-again σ.interlace, cursor-again σ, ← first) (sym h)
