-- Rows of 1 to 32 lines: height by height, and what follows of a line in them, that its numbers fit 32 bits.
use Rattle.std.proofs.Common.{Option, Some, None}
use mathlib.Core.Path.{◌≡◌, refl}
use mathlib.Core.Bool.{true, ◌&&◌}
use mathlib.Core.List.{List, [], ◌∷◌}
use Prim.Native.Nat.{ℕ, zero, suc, ◌+◌, ◌-◌, ◌≤◌, ◌<◌}
use native.Mathlib.Omega.{arith}
use lib.IntN.{ℤ, nat_abs}
use lib.ListN.{length, take, length-take}
use lib.Dec.{leb, ltb}
use borrow.Author.Tests.{leb-true, ltb-true}
use Rattle.memory.proofs.ReadBounds.{both, if-cases}
use Rattle.panel.specs.declared.Place.{Place}
use Rattle.panel.specs.declared.Background.{Background}
use Rattle.panel.specs.declared.Background.TheVariants.{Nothing, Row, Above}
use Rattle.panel.specs.Line.{later, place, row_at, above_at, is_down, background, still, background_lines, line_at, line}
use Rattle.line_numbers.specs.LineNumbers.{is_height, are_heights, line_asked}
use Rattle.line_numbers.specs.Narrow.{NarrowPlaced, NarrowBackground, NarrowLine}

height : (h : ℕ) → is_height h ≡ true → (1 ≤ h) × (h ≤ 32)
height h t = let b = both (leb 1 h) (leb h 32) t in (leb-true 1 h b.0, leb-true h 32 b.1)

are-first : (n : ℕ) (hs : List ℕ) → are_heights hs ≡ true → are_heights (take n hs) ≡ true
are-first zero hs t = refl
are-first (suc n) [] t = refl
are-first (suc n) (h ∷ hs) t = let b = both (is_height h) (are_heights hs) t in rw b.0 (are-first n hs b.1)

-- a place within rows
record Inside (hs : List ℕ) (p : Place) : Type 0 where
  index : p.index < length hs
  line : p.line < 32
  left : p.left ≤ 32

abbrev InsidePlaced : List ℕ → Option Place → Type 0
InsidePlaced hs None = Unit
InsidePlaced hs (Some p) = Inside hs p

later-inside : (h : ℕ) (hs : List ℕ) (p : Option Place) → InsidePlaced hs p → InsidePlaced (h ∷ hs) (later p)
later-inside h hs None i = tt
later-inside h hs (Some p) i = record { index = omega arith; line = i.line; left = i.left }

inside : (hs : List ℕ) (z : ℕ) → are_heights hs ≡ true → InsidePlaced hs (place hs z)
unfolding place
inside [] z t = tt
inside (h ∷ hs) z t =
    let b = both (is_height h) (are_heights hs) t in
    let few = height h b.0 in
    if-cases (InsidePlaced (h ∷ hs)) (ltb z h)
    (λ s. let below = ltb-true z h s in record { index = omega arith; line = omega arith; left = omega arith })
    (λ s. later-inside h hs (place hs (z - h)) (inside hs (z - h) b.1))

module _ (hs : List ℕ) (few : length hs ≤ 4294967295) where
  placed-narrow : (p : Option Place) → InsidePlaced hs p → NarrowPlaced p
  placed-narrow None i = tt
  placed-narrow (Some p) i = record { index = omega arith; line = omega arith }

  row-narrow : (p : Option Place) → InsidePlaced hs p → NarrowBackground (row_at p)
  row-narrow None i = tt
  row-narrow (Some p) i = record { index = omega arith; line = omega arith }

above-narrow : (h d y : ℕ) → h ≤ 32 → y < d → NarrowBackground (above_at h d y)
unfolding above_at
above-narrow h d y few first =
    if-cases NarrowBackground (leb d (h + y)) (λ t. record { index = omega arith; line = omega arith }) (λ t. tt)

most-lines : (shift : ℤ) (above y most : ℕ) (b : Background) → background_lines shift above y most b ≤ most
most-lines shift above y most Nothing = if-cases (λ (n : ℕ). n ≤ most) (is_down shift) (λ t. omega arith) (λ t. omega arith)
most-lines shift above y most (Row p) = omega arith
most-lines shift above y most (Above p) = omega arith

-- a line of a frame that it can be asked of
module _ (shift : ℤ) (above : ℕ) (heights : List ℕ) (rows y : ℕ) where
  module _ (low : above ≤ 32) (few : length heights ≤ 4294967295) (are : are_heights heights ≡ true) where
    fewer : length (take rows heights) ≤ 4294967295
    fewer = omega (arith, length-take rows heights)

    background-narrow : NarrowBackground (background shift above heights rows y)
    unfolding background
    background-narrow =
        let d = nat_abs shift in
        if-cases NarrowBackground (is_down shift)
        (λ t.
        if-cases NarrowBackground (ltb y d)
        (λ s. above-narrow above d y low (ltb-true y d s))
        (λ s. row-narrow (take rows heights) fewer (place (take rows heights) (y - d)) (inside (take rows heights) (y - d) (are-first rows heights are))))
        (λ t. row-narrow heights few (place heights (y + d)) (inside heights (y + d) are))

    line-narrow-at : (p : Option Place) → InsidePlaced (take rows heights) p → NarrowLine (line_at shift above heights rows y p)
    line-narrow-at None i = record { background = tt; still = tt; lines = omega arith }
    line-narrow-at (Some s) i = record {
      background = background-narrow;
      still = placed-narrow (take rows heights) fewer (Some s) i;
      lines = omega (arith, i.left, most-lines shift above y s.left (background shift above heights rows y));
    }

    line-narrow-in : NarrowLine (line shift above heights rows y)
    unfolding line
    line-narrow-in = line-narrow-at (still heights rows y) (inside (take rows heights) y (are-first rows heights are))

  pub line-narrow : line_asked shift above heights rows ≡ true → NarrowLine (line shift above heights rows y)
  unfolding line_asked
  line-narrow t =
      let near = leb (nat_abs shift) 31 && leb above 32 in
      let fewer = leb rows (length heights) && leb (length heights) 4294967295 in
      let all = both (near && fewer) (are_heights heights) t in
      let tests = both near fewer all.0 in
      let low = leb-true above 32 (both (leb (nat_abs shift) 31) (leb above 32) tests.0).1 in
      let few = leb-true (length heights) 4294967295 (both (leb rows (length heights)) (leb (length heights) 4294967295) tests.1).1 in
      line-narrow-in low few all.1
