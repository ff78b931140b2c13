-- The lines of rows one after the other: from each to the next, and how far a row goes.
use Rattle.std.proofs.Common.{Option, Some, None}
use mathlib.Core.Path.{◌≡◌, refl, ap, sym}
use mathlib.Core.Bool.{Bool, true, false}
use mathlib.Core.List.{List, [], ◌∷◌}
use Prim.Native.Nat.{ℕ, zero, suc, ◌+◌, ◌-◌, ◌≤◌, ◌<◌}
use native.Mathlib.Omega.{arith}
use lib.ListN.{length, take, get_or}
use lib.Dec.{ltb, leb-suc-suc}
use borrow.Author.Tests.{ltb-true, ltb-false, lt-ltb, le-ltb}
use Rattle.memory.specs.Word.{when◌then◌else◌}
use Rattle.memory.proofs.ReadBounds.{if-cases}
use Rattle.panel.specs.declared.Place.{Place}
use Rattle.panel.specs.Line.{place_at, later, place}
use Rattle.panel.specs.Lines.{Tall, row_from, next, Within, PlaceFollows, on}

tail : (h : ℕ) (hs : List ℕ) → Tall (h ∷ hs) → Tall hs
tail h hs t i there = t (suc i) (omega arith)

later-row : (h : ℕ) (hs : List ℕ) (i : ℕ) → later (row_from hs i) ≡ row_from (h ∷ hs) (suc i)
later-row h hs i = rw (leb-suc-suc (suc i) (length hs)) (by (ltb i (length hs)))
  where
    by : (b : Bool) → later (when b then Some (place_at i 0 (get_or hs i 0)) else None) ≡ (when b then Some (place_at (suc i) 0 (get_or hs i 0)) else None)
    by true = refl
    by false = refl

later-next : (h : ℕ) (hs : List ℕ) (q : Option Place) → later (next hs q) ≡ next (h ∷ hs) (later q)
later-next h hs None = refl
later-next h hs (Some p) = by (ltb 1 p.left)
  where
    by : (b : Bool) → later (when b then Some (place_at p.index (suc p.line) (p.left - 1)) else row_from hs (suc p.index))
        ≡ (when b then Some (place_at (suc p.index) (suc p.line) (p.left - 1)) else row_from (h ∷ hs) (suc (suc p.index)))
    by true = refl
    by false = later-row h hs (suc p.index)

pub first-place : (hs : List ℕ) → Tall hs → place hs 0 ≡ row_from hs 0
unfolding place
first-place [] t = refl
first-place (h ∷ hs) t =
    let some : 1 ≤ h = t 0 (omega arith) in
    let all : h - 0 ≡ h = omega arith in
    rw (lt-ltb 0 h (omega arith), lt-ltb 0 (length (h ∷ hs)) (omega arith), all)

pub place-follows : PlaceFollows
unfolding place
place-follows [] t z = refl
place-follows (h ∷ hs) t z =
    if-cases (λ (q : Option Place). place (h ∷ hs) (suc z) ≡ next (h ∷ hs) q) (ltb z h) (λ s. here (ltb-true z h s) (ltb (suc z) h) refl) (λ s. past (ltb-false z h s) (place-follows hs (tail h hs t) (z - h)))
  where
    past : h ≤ z → place hs (suc (z - h)) ≡ next hs (place hs (z - h)) → place (h ∷ hs) (suc z) ≡ next (h ∷ hs) (later (place hs (z - h)))
    past s follows =
        let e : suc z - h ≡ suc (z - h) = omega arith in
        rw (le-ltb (suc z) h (omega arith), e, follows) (later-next h hs (place hs (z - h)))

    here : z < h → (b : Bool) → ltb (suc z) h ≡ b → place (h ∷ hs) (suc z) ≡ next (h ∷ hs) (Some (place_at 0 z (h - z)))
    here s true more =
        let below = ltb-true (suc z) h more in
        let e : h - suc z ≡ h - z - 1 = omega arith in
        rw (more, lt-ltb 1 (h - z) (omega arith), e)
    here s false more =
        let end = ltb-false (suc z) h more in
        let e : suc z - h ≡ 0 = omega arith in
        rw (more, le-ltb 1 (h - z) (omega arith), e, first-place hs (tail h hs t)) (later-row h hs 0)

abbrev PlacedWithin : List ℕ → Option Place → Type 0
PlacedWithin hs None = Unit
PlacedWithin hs (Some p) = Within hs p

later-within : (h : ℕ) (hs : List ℕ) (q : Option Place) → PlacedWithin hs q → PlacedWithin (h ∷ hs) (later q)
later-within h hs None w = tt
later-within h hs (Some p) w = record { index = omega arith; height = w.height; some = w.some }

within : (hs : List ℕ) (z : ℕ) → PlacedWithin hs (place hs z)
unfolding place
within [] z = tt
within (h ∷ hs) z =
    if-cases (PlacedWithin (h ∷ hs)) (ltb z h)
    (λ s. let below = ltb-true z h s in record { index = omega arith; height = omega arith; some = omega arith })
    (λ s. later-within h hs (place hs (z - h)) (within hs (z - h)))

pub place-within : (hs : List ℕ) (z : ℕ) (p : Place) → place hs z ≡ Some p → Within hs p
place-within hs z p e = rw e at (within hs z)

-- k lines on in a row, and the line after its last
module _ (hs : List ℕ) (tall : Tall hs) (z : ℕ) (p : Place) (e : place hs z ≡ Some p) where
  pub place-on : (k : ℕ) → k < p.left → place hs (z + k) ≡ Some (on k p)
  place-on zero few =
      let here : z + 0 ≡ z = omega arith in
      let l : p.line + 0 ≡ p.line = omega arith in
      let m : p.left - 0 ≡ p.left = omega arith in
      rw (here, l, m) e
  place-on (suc k) few =
      let there : z + suc k ≡ suc (z + k) = omega arith in
      let l : p.line + suc k ≡ suc (p.line + k) = omega arith in
      let m : p.left - suc k ≡ p.left - k - 1 = omega arith in
      rw (there, place-follows hs tall (z + k), place-on k (omega arith), lt-ltb 1 (p.left - k) (omega arith), l, m)

  pub place_after : place hs (z + p.left) ≡ row_from hs (suc p.index)
  place_after =
      let some = (place-within hs z p e).some in
      let last : z + p.left ≡ suc (z + (p.left - 1)) = omega arith in
      rw (last, place-follows hs tall (z + (p.left - 1)), place-on (p.left - 1) (omega arith), le-ltb 1 (p.left - (p.left - 1)) (omega arith))

-- the place in the first rows is the place in all
later-at : (x y : Option Place) (s : Place) → ((q : Place) → x ≡ Some q → y ≡ Some q) → later x ≡ Some s → later y ≡ Some s
later-at None y s f h = let z : ◌≡◌ {A = ℕ} 0 1 = cc in absurd (omega arith)
later-at (Some q) y s f h = rw (f q refl) h

pub place-first : (n : ℕ) (hs : List ℕ) (z : ℕ) (s : Place) → place (take n hs) z ≡ Some s → place hs z ≡ Some s
unfolding place
place-first zero hs z s h = let z : ◌≡◌ {A = ℕ} 0 1 = cc in absurd (omega arith)
place-first (suc n) [] z s h = let z : ◌≡◌ {A = ℕ} 0 1 = cc in absurd (omega arith)
place-first (suc n) (x ∷ xs) z s h = by (ltb z x) (place-first n xs (z - x)) h
  where
    by : (b : Bool) → ((q : Place) → place (take n xs) (z - x) ≡ Some q → place xs (z - x) ≡ Some q) → (when b then Some (place_at 0 z (x - z)) else later (place (take n xs) (z - x))) ≡ Some s
        → (when b then Some (place_at 0 z (x - z)) else later (place xs (z - x))) ≡ Some s
    by true rest h = h
    by false rest h = later-at (place (take n xs) (z - x)) (place xs (z - x)) s rest h

-- past the rows there are none
pub place_none : (hs : List ℕ) → Tall hs → (z k : ℕ) → place hs z ≡ None → place hs (z + k) ≡ None
place_none hs tall z zero e = let here : z + 0 ≡ z = omega arith in rw here e
place_none hs tall z (suc k) e =
    let there : z + suc k ≡ suc (z + k) = omega arith in
    rw (there, place-follows hs tall (z + k), place_none hs tall z k e)

-- the row that `row_from` gives is the one it was asked for
pub row-index : (hs : List ℕ) (i : ℕ) (t : Place) → row_from hs i ≡ Some t → t.index ≡ i
row-index hs i t = if-cases (λ (q : Option Place). q ≡ Some t → t.index ≡ i) (ltb i (length hs)) (λ s e. index_of e) (λ s e. let z : ◌≡◌ {A = ℕ} 0 1 = cc in absurd (omega arith))
  where
    index_of : Some (place_at i 0 (get_or hs i 0)) ≡ Some t → t.index ≡ i
    index_of e = let same : place_at i 0 (get_or hs i 0) ≡ t = cc in sym (ap (λ (q : Place). q.index) same)
