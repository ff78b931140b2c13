-- Refusal 18 comes exactly where the walk steps on from a page's last word: a step never leads back to where its pointer points.
use mathlib.Core.Path.{◌≡◌, refl, sym, ap, ◌∙◌}
use mathlib.Core.Bool.{Bool, true, false, ◌&&◌}
use mathlib.Core.List.{List}
use Prim.Native.Nat.{ℕ, zero, suc, ◌+◌, ◌%◌, ◌<◌}
use native.Mathlib.Omega.{arith}
use lib.Dec.{eqb}
use borrow.Author.Tests.{eqb-true, eqb-false, eq-eqb, ne_eqb}
use Rattle.memory.specs.Address.{pointer, page, place, address_of, next_word, ahead}
use Rattle.memory.proofs.Step.{step-segmented}
use Rattle.memory.proofs.RunLaws.{ahead_more}
use Rattle.converter.specs.Walk.{points_at, read_on}
use Rattle.converter.specs.Conversions.{PageEnds}
use Rattle.converter.proofs.Pointers.{even, InPage, in-page, not_back, in-page-even}

-- some words on
ahead-in-page : (start k : ℕ) → InPage start k (ahead false k start)
unfolding ahead
ahead-in-page start zero = omega arith
ahead-in-page start (suc k) =
    let one : suc k ≡ k + 1 = omega arith in
    let e = ap (λ (j : ℕ). ahead false j start) one ∙ ahead_more false k start in
    omega (arith, e, in-page start k (ahead false k start) (ahead-in-page start k))

-- a page's last word, which the step leaves
last_word : (a : ℕ) → place a ≡ 65534 → address_of (page (next_word false a)) 65534 ≡ a
last_word a h = omega (arith, step-segmented a)

module _ (held : ℕ) (m : List ℕ) (from start : ℕ) (e : points_at held m from ≡ start) (v : start % 2 ≡ 0) where
  first_on : read_on held m start from ≡ false
  unfolding read_on
  first_on = rw (eq-eqb start (points_at held m from) (sym e)) (none (eqb (place start) 0))
    where
      none : (b : Bool) → b && false ≡ false
      none true = refl
      none false = refl

  next-on : (k a : ℕ) → InPage start k a → k < 12000 → read_on held m (next_word false a) from ≡ eqb (place a) 65534
  unfolding read_on
  next-on k a i l =
      rw (ne_eqb (next_word false a) (points_at held m from) (λ s. not_back start k a i l (s ∙ e))) (by (eqb (place a) 65534) refl)
    where
      by : (t : Bool) → eqb (place a) 65534 ≡ t → eqb (place (next_word false a)) 0 && true ≡ eqb (place a) 65534
      by true h =
          let z : place (next_word false a) ≡ 0 = omega (arith, step-segmented a, eqb-true (place a) 65534 h) in
          rw (eq-eqb (place (next_word false a)) 0 z, h)
      by false h =
          let o = eqb-false (place a) 65534 h in
          let y = in-page-even start k a i v in
          rw (ne_eqb (place (next_word false a)) 0 (λ z. o (omega (arith, step-segmented a, z, y))), h)

pub page-ends : PageEnds
page-ends held m from f s l e =
    let p = pointer false from f s in
    let start = p.address in
    let v = even from f s in
    record {
      first = first_on held m p.from start e v;
      next = λ k few. rw (ahead_more false k start) (next-on held m p.from start e v k (ahead false k start) (ahead-in-page start k) few);
      told = λ k h. rw (ahead_more false k start) (last_word (ahead false k start) (eqb-true (place (ahead false k start)) 65534 h));
    }
