-- Where background segments stand against a window whose edges are boundaries.
use mathlib.Core.Path.{◌≡◌, refl, sym}
use mathlib.Core.Bool.{Bool, true, false, ◌&&◌, ◌||◌, not, and-false}
use mathlib.Core.List.{List, [], ◌∷◌}
use Prim.Native.Nat.{ℕ, suc, ◌+◌, ◌<◌, ◌≤◌, max}
use native.Mathlib.Omega.{arith}
use lib.ListN.{length}
use lib.Dec.{ltb, leb, eqb}
use borrow.Author.Tests.{ltb-true, ltb-false, leb-true, eqb-true, le-leb, lt-leb, leb-false, not-true}
use Rattle.memory.specs.Word.{when◌then◌else◌}
use Rattle.memory.proofs.ReadBounds.{if-cases, both}
use Rattle.blocks.specs.declared.Segment.{Segment}
use Rattle.memory.specs.Address.{null}
use Rattle.blocks.proofs.BlockBounds.{Short}
use Rattle.layout.specs.Layout.{width, total, boundary, covered, on_side, segments_on}
use Rattle.layout.specs.declared.Side.{Side}
use Rattle.layout.specs.declared.Side.TheVariants.{Whole, Before, After}

or_cases : {X : Type 0} (b c : Bool) → b || c ≡ true → (b ≡ true → X) → (c ≡ true → X) → X
or_cases true c h f g = f refl
or_cases false c h f g = g h

-- a segment from s of width w that is drawn after a window ends after it
after-end : (first end s w : ℕ) → on_side (After first end) s w ≡ true → end < s + w
unfolding on_side covered
after-end first end s w h =
    let k = both (not (ltb s first)) (not (leb first s && leb (s + w) end)) h in
    let l = le-leb first s (ltb-false s first (not-true (ltb s first) k.0)) in
    leb-false (s + w) end (not-true (leb (s + w) end) (rw l at k.1))

-- a segment from s past a place does not end by it
pub ends-past : (b : Bool) (s w end : ℕ) → end < s → false ≡ b && leb (s + w) end
ends-past b s w end h = sym (rw (lt-leb (s + w) end (omega arith)) (and-false b))

module _ (hidden : Bool) where
  -- a width is a byte, as length and visible are
  pub width-byte : (g : Segment) → g.length < 256 → g.visible < 256 → width hidden g ≤ 255
  unfolding width
  width-byte g l v = if-cases (λ n. n ≤ 255) (hidden && not (null g.codes)) (λ _. omega arith) (λ _. omega arith)

  pub whole-all : (s : ℕ) (gs : List Segment) → segments_on Whole hidden s gs ≡ gs
  unfolding segments_on on_side
  whole-all s [] = refl
  whole-all s (g ∷ gs) = rw (whole-all (s + width hidden g) gs)

  boundary-le : (s : ℕ) (gs : List Segment) (place : ℕ) → boundary hidden s gs place ≡ true → s ≤ place
  unfolding boundary
  boundary-le s [] place h = leb-true s place h
  boundary-le s (g ∷ gs) place h =
      or_cases (eqb s place) (boundary hidden (s + width hidden g) gs place) h
      (λ e. omega (arith, eqb-true s place e)) (λ k. omega (arith, boundary-le (s + width hidden g) gs place k))

  -- no segment from s on begins before a place and ends after it
  abbrev pub Clear : ℕ → ℕ → List Segment → Type 0
  Clear place s [] = Unit
  Clear place s (g ∷ gs) = (s < place → s + width hidden g ≤ place) × Clear place (s + width hidden g) gs

  clear-from : (place s : ℕ) (gs : List Segment) → (s < place → boundary hidden s gs place ≡ true) → Clear place s gs
  unfolding boundary
  clear-from place s [] h = tt
  clear-from place s (g ∷ gs) h =
      let next = s + width hidden g in
      (λ l. boundary-le next gs place (past l), clear-from place next gs (λ l. past (omega arith)))
    where
      past : s < place → boundary hidden (s + width hidden g) gs place ≡ true
      past l =
          or_cases (eqb s place) (boundary hidden (s + width hidden g) gs place) (h l)
          (λ e. absurd (omega (arith, eqb-true s place e))) (λ k. k)

  pub clear : (place : ℕ) (gs : List Segment) → boundary hidden 0 gs place ≡ true → Clear place 0 gs
  clear place gs h = clear-from place 0 gs (λ _. h)

  -- the segments before a window end at its first column at the latest
  pub before-total : (first s : ℕ) (gs : List Segment) → Clear first s gs → s + total hidden (segments_on (Before first) hidden s gs) ≤ max s first
  unfolding segments_on on_side total
  before-total first s [] c = omega arith
  before-total first s (g ∷ gs) (c, cs) =
      let ih = before-total first (s + width hidden g) gs cs in
      if-cases (λ r. s + total hidden r ≤ max s first) (ltb s first)
      (λ e. omega (arith, c (ltb-true s first e))) (λ e. omega arith)

  -- where all segments end by a limit, those after a window also do when they are drawn from the window's end on
  pub after-total : (limit first end s : ℕ) (gs : List Segment) → Clear end s gs → max s end ≤ limit → s + total hidden gs ≤ limit
      → max s end + total hidden (segments_on (After first end) hidden s gs) ≤ limit
  unfolding segments_on total
  after-total limit first end s [] c l k = omega arith
  after-total limit first end s (g ∷ gs) (c, cs) l k =
      let w = width hidden g in
      let ih = after-total limit first end (s + w) gs cs (omega arith) (omega arith) in
      if-cases (λ r. max s end + total hidden r ≤ limit) (on_side (After first end) s w)
      (λ e. let past : s < end → ⊥ = λ i. omega (arith, c i, after-end first end s w e) in omega arith) (λ _. omega arith)

  -- no segment is on both sides of a window
  pub sides-length : (first end s : ℕ) (gs : List Segment)
      → length (segments_on (Before first) hidden s gs) + length (segments_on (After first end) hidden s gs) ≤ length gs
  unfolding segments_on on_side
  sides-length first end s [] = omega arith
  sides-length first end s (g ∷ gs) =
      let w = width hidden g in
      let x = segments_on (Before first) hidden (s + w) gs in
      let y = segments_on (After first end) hidden (s + w) gs in
      omega (arith, one (ltb s first) (not (covered first end s w)) x y, sides-length first end (s + w) gs)
    where
      one : (b c : Bool) (x y : List Segment)
          → length (when b then g ∷ x else x) + length (when not b && c then g ∷ y else y) ≤ suc (length x + length y)
      one true c x y = omega arith
      one false true x y = omega arith
      one false false x y = omega arith

  pub side-short : (side : Side) (s : ℕ) (gs : List Segment) → Short gs → Short (segments_on side hidden s gs)
  unfolding segments_on
  side-short side s [] h = tt
  side-short side s (g ∷ gs) (h, hs) =
      let rest = side-short side (s + width hidden g) gs hs in
      if-cases Short (on_side side s (width hidden g)) (λ _. (h, rest)) (λ _. rest)
