-- The rate rule, once over all sixteen rates, and the calls that a scroll takes.
use mathlib.Core.Path.{◌≡◌, ap, ◌∙◌}
use Prim.Native.Nat.{ℕ, ◌+◌, ◌-◌, ◌*◌, ◌/◌, ◌%◌, ◌≤◌, ◌<◌}
use native.Mathlib.Nat.{div-add-mod', mod-lt, div-eq_of_lt-le, div-eq_of_eq-mul_left, div-lt_iff_lt-mul, le-div_iff_mul-le, lt-div-mul-add, mul-div_cancel, add-mul, mul-one, div-one}
use native.Mathlib.Omega.{arith}
use lib.Dec.{leb, ltb}
use borrow.Author.Tests.{leb-true, leb-false, le-leb, lt-ltb, le-ltb}
use Rattle.memory.specs.Word.{when◌then◌else◌}
use Rattle.memory.proofs.ReadBounds.{if-cases}
use Rattle.scroll.specs.declared.Rate.{Rate}
use Rattle.scroll.specs.declared.Offset.{Offset}
use Rattle.scroll.specs.Rate.{rate}
use Rattle.scroll.specs.Scroll.{moved}

-- a fast rate moves its lines, 1 to 8, in every call; a slow one moves one line when its frames, 1 to 8, have passed
abbrev pub Fast : ℕ → Type 0
Fast n = (g : Offset) → moved (rate n) g ≡ record { lines = g.lines + (n + 1); phase = 0 }

abbrev pub Slow : ℕ → Type 0
Slow n = (g : Offset) → moved (rate n) g
    ≡ (when ltb (g.phase + 1) (n - 7) then record { lines = g.lines; phase = g.phase + 1 } else record { lines = g.lines + 1; phase = 0 })

pub rate-rule : (n : ℕ) → n < 16 → (n < 8 → Fast n) × (8 ≤ n → Slow n)
unfolding rate moved
rate-rule n h =
    ((λ k g. rw (lt-ltb n 8 k, le-leb 1 (g.phase + 1) (omega arith))), λ k g. rw (le-ltb n 8 k) (slow _ _ (n - 7) (g.phase + 1)))
  where
    slow : (x y : Offset) (f p : ℕ) → (when leb f p then x else y) ≡ (when ltb p f then y else x)
    slow x y f p =
        if-cases (λ (z : Offset). z ≡ (when ltb p f then y else x)) (leb f p) (λ t. rw (le-ltb p f (leb-true f p t)))
        (λ t. rw (lt-ltb p f (leb-false f p t)))

-- ---- the calls that a scroll takes ----
-- the offset after k moves of a rate from 0
abbrev pub gone : Rate → ℕ → Offset
gone r k = record { lines = k / r.frames * r.lines; phase = k % r.frames }

-- the calls that a row of n scan lines takes: the row's lines over the rate's, rounded up, and the rate's frames for each
abbrev pub calls_of : Rate → ℕ → ℕ
calls_of r n = (n + r.lines - 1) / r.lines * r.frames

module _ (r : Rate) (some : 1 ≤ r.frames) where
  pub gone-more : (k : ℕ) → moved r (gone r k) ≡ gone r (k + 1)
  unfolding moved
  gone-more k =
      let f = r.frames in
      let l = r.lines in
      let q = k / f in
      let whole : q * f + k % f ≡ k = div-add-mod' k f in
      let rest : k % f < f = mod-lt k some in
      let more : (q + 1) * f ≡ q * f + 1 * f = add-mul q 1 f in
      if-cases (λ (o : Offset). o ≡ gone r (k + 1)) (leb f (k % f + 1))
      (λ t.
      let full : f ≤ k % f + 1 = leb-true f (k % f + 1) t in
      let d : (k + 1) / f ≡ q + 1 = div-eq_of_eq-mul_left some (omega arith) in
      let e : (k + 1) % f ≡ 0 = omega (arith, div-add-mod' (k + 1) f, ap (λ (i : ℕ). i * f) d) in
      rw (d, e, add-mul q 1 l) (ap (λ (i : ℕ). record { lines = q * l + i; phase = 0 }) (omega arith)))
      (λ t.
      let part : k % f + 1 < f = leb-false f (k % f + 1) t in
      let d : (k + 1) / f ≡ q = div-eq_of_lt-le f (omega arith) (omega arith) in
      let e : (k + 1) % f ≡ k % f + 1 = omega (arith, div-add-mod' (k + 1) f, ap (λ (i : ℕ). i * f) d) in
      rw (d, e))

  module _ (n : ℕ) (line : 1 ≤ r.lines) (row : 1 ≤ n) where
    -- before that many calls the row's lines are not reached, and with them they are
    pub not_yet : (k : ℕ) → k < calls_of r n → (gone r k).lines < n
    not_yet k h =
        let l = r.lines in
        let q = k / r.frames in
        let below : q < (n + l - 1) / l = (div-lt_iff_lt-mul some).1 h in
        let fit : (q + 1) * l ≤ n + l - 1 = (le-div_iff_mul-le line).0 (omega arith) in
        omega (arith, add-mul q 1 l)

    pub then-ends : n ≤ (gone r (calls_of r n)).lines
    then-ends =
        let l = r.lines in
        let q = (n + l - 1) / l in
        let over : n + l - 1 < q * l + l = lt-div-mul-add line in
        rw (mul-div_cancel q some) (omega arith)

-- a fast rate takes the row's lines over its own, rounded up; a slow one its frames for each of the row's lines
pub fast-calls : (i n : ℕ) → i < 8 → calls_of (rate i) n ≡ (n + i) / (i + 1)
unfolding rate
fast-calls i n h = rw (lt-ltb i 8 h, mul-one) (ap (λ (k : ℕ). k / (i + 1)) (omega arith))

pub slow-calls : (i n : ℕ) → 8 ≤ i → calls_of (rate i) n ≡ n * (i - 7)
unfolding rate
slow-calls i n h = rw (le-ltb i 8 h) (ap (λ (k : ℕ). k * (i - 7)) (div-one _ ∙ omega arith))
