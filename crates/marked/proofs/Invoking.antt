-- "how many of the 256 codes invoke an attribute: 256 halved once for each one in the mask" is their number: a bit set in the mask leaves
-- half of the codes, the other bits leave all.
use mathlib.Core.Path.{◌≡◌, refl, ap, ap₂, sym, ◌∙◌}
use mathlib.Core.Bool.{Bool, true, false, ◌&&◌}
use Prim.Native.Nat.{ℕ, zero, suc, ◌+◌, ◌-◌, ◌*◌, ◌/◌, ◌%◌, ◌^◌, ◌≤◌, ◌<◌, min}
use native.Mathlib.Nat.{pow-suc}
use native.Mathlib.Numerals.{add-one}
use native.Mathlib.Omega.{arith}
use lib.Dec.{eqb}
use lib.Bits.{bit_and, and_step, and_zero_l}
use lib.Count.{ones, ones_step, ones-le}
use borrow.Author.Tests.{eqb-true, eqb-false, eq-eqb, ne_eqb}
use Rattle.settings.specs.Timing.{halved, invoking_codes}
use Rattle.codes.specs.Attribute.{invokes}
use Rattle.marked.specs.Invoking.{how_many, CodesThatInvoke}

-- the numbers below 2n are the even and the odd ones
twice : (test : ℕ → Bool) (n : ℕ) → how_many test (n * 2) ≡ how_many (λ c. test (c * 2)) n + how_many (λ c. test (c * 2 + 1)) n
unfolding how_many
twice test zero = refl
twice test (suc n) =
    let e : suc n * 2 ≡ suc (suc (n * 2)) = omega arith in
    let d : n * 2 + 1 ≡ suc (n * 2) = add-one (n * 2) in
    ap (how_many test) e ∙ rw d (omega (arith, twice test n))

same_tests : (f g : ℕ → Bool) (n : ℕ) → ((c : ℕ) → f c ≡ g c) → how_many f n ≡ how_many g n
unfolding how_many
same_tests f g zero h = refl
same_tests f g (suc n) h = rw (h n, same_tests f g n h)

none_pass : (n : ℕ) → how_many (λ c. false) n ≡ 0
unfolding how_many
none_pass zero = refl
none_pass (suc n) = omega (arith, none_pass n)

-- a code equals the value on every bit set in the mask
abbrev matches : ℕ → ℕ → ℕ → Bool
matches m v c = eqb (bit_and c m) (bit_and v m)

two_digits : (x y p q : ℕ) → p < 2 → q < 2 → eqb (x * 2 + p) (y * 2 + q) ≡ eqb x y && eqb p q
two_digits x y p q h k = by (eqb x y) (eqb p q) refl refl
  where
    by : (a b : Bool) → eqb x y ≡ a → eqb p q ≡ b → eqb (x * 2 + p) (y * 2 + q) ≡ eqb x y && eqb p q
    by true true e d = rw (e, d) (eq-eqb (x * 2 + p) (y * 2 + q) (omega (arith, eqb-true x y e, eqb-true p q d)))
    by true false e d = rw (e, d) (ne_eqb (x * 2 + p) (y * 2 + q) (λ z. eqb-false p q d (omega (arith, eqb-true x y e))))
    by false b e d = rw e (ne_eqb (x * 2 + p) (y * 2 + q) (λ z. eqb-false x y e (omega arith)))

-- the lowest digit apart
by-digit : (m v c b : ℕ) → b < 2 → matches m v (c * 2 + b) ≡ matches (m / 2) (v / 2) c && eqb (min b (m % 2)) (min (v % 2) (m % 2))
by-digit m v c b h =
    let half : (c * 2 + b) / 2 ≡ c = omega arith in
    let odd : (c * 2 + b) % 2 ≡ b = omega arith in
    rw (and_step (c * 2 + b) m, and_step v m, half, odd)
    (two_digits (bit_and c (m / 2)) (bit_and (v / 2) (m / 2)) (min b (m % 2)) (min (v % 2) (m % 2)) (omega arith) (omega arith))

module _ (m v k : ℕ) (h : m % 2 < 2) where
  abbrev rest : ℕ → Bool
  rest c = matches (m / 2) (v / 2) c

  by-halves : how_many (matches m v) (2 ^ k * 2)
      ≡ how_many (λ c. rest c && eqb (min 0 (m % 2)) (min (v % 2) (m % 2))) (2 ^ k)
      + how_many (λ c. rest c && eqb (min 1 (m % 2)) (min (v % 2) (m % 2))) (2 ^ k)
  by-halves =
      twice (matches m v) (2 ^ k)
      ∙ ap₂ ◌+◌
      (same_tests (λ c. matches m v (c * 2)) _ (2 ^ k) (λ c. let e : c * 2 ≡ c * 2 + 0 = omega arith in ap (matches m v) e ∙ by-digit m v c 0 (omega arith)))
      (same_tests (λ c. matches m v (c * 2 + 1)) _ (2 ^ k) (λ c. by-digit m v c 1 (omega arith)))

and-true : (b : Bool) → b && true ≡ b
and-true true = refl
and-true false = refl

and-false : (b : Bool) → b && false ≡ false
and-false true = refl
and-false false = refl

-- of the codes of k bits, each bit set in the mask leaves half
pub count-matches : (k m v : ℕ) → m < 2 ^ k → v < 2 ^ k → how_many (matches m v) (2 ^ k) ≡ 2 ^ (k - ones m)
unfolding how_many
count-matches zero m v h j =
    let y : v ≡ 0 = omega arith in
    let e : 0 - ones m ≡ 0 = omega arith in
    rw (y, and_zero_l m, e)
count-matches (suc k) m v h j =
    let p : 2 ^ suc k ≡ 2 ^ k * 2 = pow-suc 2 k in
    let ih : how_many (matches (m / 2) (v / 2)) (2 ^ k) ≡ 2 ^ (k - ones (m / 2)) = count-matches k (m / 2) (v / 2) (omega arith) (omega arith) in
    let few : ones (m / 2) ≤ k = ones-le k (m / 2) (omega arith) in
    rw (p, by-halves m v k (omega arith), ones_step m) (digit (m % 2) (v % 2) (omega arith) (omega arith) ih few)
  where
    kept : (n : ℕ) (b : Bool) → b ≡ true → how_many (λ c. matches (m / 2) (v / 2) c && b) n ≡ how_many (matches (m / 2) (v / 2)) n
    kept n b e = same_tests _ _ n (λ c. rw e (and-true (matches (m / 2) (v / 2) c)))

    gone : (n : ℕ) (b : Bool) → b ≡ false → how_many (λ c. matches (m / 2) (v / 2) c && b) n ≡ 0
    gone n b e = same_tests (λ (c : ℕ). matches (m / 2) (v / 2) c && b) (λ (c : ℕ). false) n (λ c. rw e (and-false (matches (m / 2) (v / 2) c))) ∙ none_pass n

    digit : (a b : ℕ) → a < 2 → b < 2 → how_many (matches (m / 2) (v / 2)) (2 ^ k) ≡ 2 ^ (k - ones (m / 2)) → ones (m / 2) ≤ k
        → how_many (λ c. matches (m / 2) (v / 2) c && eqb (min 0 a) (min b a)) (2 ^ k)
        + how_many (λ c. matches (m / 2) (v / 2) c && eqb (min 1 a) (min b a)) (2 ^ k)
        ≡ 2 ^ (suc k - (a + ones (m / 2)))
    digit zero b h₁ h₂ ih few =
        let e : suc k - (0 + ones (m / 2)) ≡ suc (k - ones (m / 2)) = omega arith in
        let y : min b 0 ≡ 0 = omega arith in
        rw (e, pow-suc 2 (k - ones (m / 2)), y) (omega (arith, kept (2 ^ k) true refl, ih))
    digit (suc zero) zero h₁ h₂ ih few =
        let e : suc k - (1 + ones (m / 2)) ≡ k - ones (m / 2) = omega arith in
        rw e (omega (arith, kept (2 ^ k) true refl, gone (2 ^ k) false refl, ih))
    digit (suc zero) (suc zero) h₁ h₂ ih few =
        let e : suc k - (1 + ones (m / 2)) ≡ k - ones (m / 2) = omega arith in
        rw e (omega (arith, kept (2 ^ k) true refl, gone (2 ^ k) false refl, ih))
    digit (suc (suc a)) b h₁ h₂ ih few = absurd (omega arith)
    digit (suc zero) (suc (suc b)) h₁ h₂ ih few = absurd (omega arith)

halved-power : (j i : ℕ) → halved j (2 ^ (j + i)) ≡ 2 ^ i
unfolding halved
halved-power zero i = let e : 0 + i ≡ i = omega arith in rw e
halved-power (suc j) i =
    let e : suc j + i ≡ suc (j + i) = omega arith in
    let d : 2 ^ (j + i) * 2 / 2 ≡ 2 ^ (j + i) = omega arith in
    rw (e, pow-suc 2 (j + i), d) (halved-power j i)

pub codes-that-invoke : CodesThatInvoke
unfolding invokes invoking_codes
codes-that-invoke flag h =
    let j = ones (flag / 256) in
    let few : j ≤ 8 = ones-le 8 (flag / 256) (omega arith) in
    let e : 8 ≡ j + (8 - j) = omega arith in
    count-matches 8 (flag / 256) (flag % 256) (omega arith) (omega arith)
    ∙ sym (ap (λ (i : ℕ). halved j (2 ^ i)) e ∙ halved-power j (8 - j))
