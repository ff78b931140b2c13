-- The frame's rows have as many lines as the screen or more, and the rows below as many as the shift: so every line has a place.
use mathlib.Core.Path.{◌≡◌, refl, sym, ap, ◌∙◌}
use mathlib.Core.Bool.{Bool, true, false}
use mathlib.Core.List.{List, [], ◌∷◌, ◌++◌}
use mathlib.Core.Option.{Option, none, some}
use Prim.Native.Nat.{ℕ, ◌+◌, ◌-◌, ◌≤◌, ◌<◌, zero-le}
use native.Mathlib.Omega.{arith}
use lib.IntN.{pos, negsuc, nat_abs}
use lib.Dec.{ltb, leb}
use borrow.Author.Tests.{ltb-true, ltb-false, leb-true, leb-false, le-leb, le-ltb}
use Rattle.memory.specs.declared.Refusal.{Refusal}
use Rattle.memory.proofs.ReadBounds.{Words, if-cases}
use Rattle.settings.specs.declared.Settings.{Settings}
use Rattle.settings.specs.Timing.{lines_for_rows}
use Rattle.state.specs.declared.State.{State}
use Rattle.frame.specs.Frame.{frame}
use Rattle.frame.proofs.Frames.{Ends, complete, refusing, frame-ends}
use Rattle.insertion.specs.Insertion.{lines_of}
use Rattle.panel.specs.declared.Background.{Background}
use Rattle.panel.specs.declared.Background.TheVariants.{Nothing}
use Rattle.panel.specs.Line.{place, row_at, above_at, is_down}
use Rattle.picture.specs.Picture.{PictureRow, Picture, frame_rows, below_of, onward, below_rows, picture, height_above, heights_of, line_on}
use Rattle.picture.specs.EveryLine.{Everywhere, refusal_below, EveryLine, only_first, with_one_below, last_of, OneIsEnough}
use Rattle.picture.proofs.Heights.{refuses-none, rest-fills, rows_fill}
use Rattle.picture.proofs.Places.{sum, sum-append, row-nowhere, place-within, place-past, fills-sum, fills-last, line-up, line-above, line-down}

-- as many lines below as the shift
module _ (σ : Settings) (m : List ℕ) (w : Words m) (n : ℕ) where
  below-sum : (r : Option Refusal) (s : Option State) {t : State} → r ≡ none → s ≡ some t → refusal_below σ m n s ≡ none
      → n ≤ sum (heights_of (below_of σ m n r s))
  below-sum none (some s) h k ok = fills-sum (rest-fills σ m w (onward n s) ok)
  below-sum none none h k ok = refuses-none (sym k)
  below-sum (some r) s h k ok = refuses-none h

  pub frame_below : (latch : ℕ) → (frame latch σ m).refusal ≡ none → refusal_below σ m n (frame latch σ m).state ≡ none
      → n ≤ sum (heights_of (below_rows σ m n (frame latch σ m)))
  unfolding below_rows
  frame_below latch ok below = by (frame-ends σ m w latch)
    where
      by : Ends (frame latch σ m) → n ≤ sum (heights_of (below_of σ m n (frame latch σ m).refusal (frame latch σ m).state))
      by (complete a b c) = below-sum (frame latch σ m).refusal (frame latch σ m).state a b below
      by (refusing a) = refuses-none (sym a ∙ ok)

-- in rows of so many lines a line has a place
has-row : (hs : List ℕ) (z : ℕ) {b : Background} → z < sum hs → b ≡ row_at (place hs z) → b ≡ Nothing → ⊥
has-row hs z h e k = place-within hs z h (row-nowhere (place hs z) (sym e ∙ k))

has_above : (h d y : ℕ) {b : Background} → d ≤ h → b ≡ above_at h d y → b ≡ Nothing → ⊥
unfolding above_at
has_above h d y few e k =
    let f = rw (le-leb d (h + y) (omega arith)) at e in
    let z : ◌≡◌ {A = ℕ} 0 1 = cc in
    omega arith

down-line : (p : Picture) (y : ℕ) → y < sum (heights_of p.rows) → is_down p.shift ≡ true → nat_abs p.shift ≤ height_above p.above
    → (line_on p y).background ≡ Nothing → ⊥
down-line p y on down few = by (ltb y d) refl
  where
    d : ℕ
    d = nat_abs p.shift

    by : (t : Bool) → ltb y d ≡ t → (line_on p y).background ≡ Nothing → ⊥
    by true t = has_above (height_above p.above) d y few (line-above p y on down (ltb-true y d t))
    by false t = has-row (heights_of p.rows) (y - d) (omega arith) (line-down p y on down (ltb-false y d t))

pub every-line : EveryLine
unfolding picture
every-line (pos n) soft latch σ m w ok below above y h =
    let rows : lines_for_rows σ ≤ sum (heights_of (frame_rows latch σ m)) = fills-sum (rows_fill latch σ m w ok) in
    let p = picture (pos n) soft latch σ m in
    let more : n ≤ sum (heights_of p.below) =
    if-cases (λ (rs : List PictureRow). n ≤ sum (heights_of rs)) (ltb 0 n) (λ t. frame_below σ m w n latch ok (below t)) (λ t. ltb-false 0 n t) in
    has-row (heights_of p.rows ++ heights_of p.below) (y + n) (rw (sum-append (heights_of p.rows) (heights_of p.below)) (omega arith))
    (line-up p y (omega arith) (le-ltb n 0 zero-le))
every-line (negsuc n) soft latch σ m w ok below above y h =
    let rows : lines_for_rows σ ≤ sum (heights_of (frame_rows latch σ m)) = fills-sum (rows_fill latch σ m w ok) in
    down-line (picture (negsuc n) soft latch σ m) y (omega arith) refl (above refl)

-- ---- one row below ----
one-sum : (rs : List PictureRow) → sum (heights_of (only_first rs)) ≡ height_above rs
one-sum [] = refl
one-sum (r ∷ rs) = omega arith

pub one-is-enough : OneIsEnough
unfolding picture
one-is-enough (negsuc n) soft latch σ m w line ok up = let z : ◌≡◌ {A = ℕ} 0 1 = cc in absurd (omega arith)
one-is-enough (pos n) soft latch σ m w line ok up = (needs, enough)
  where
    lines : ℕ
    lines = lines_for_rows σ

    p : Picture
    p = with_one_below (picture (pos n) soft latch σ m)

    heights : List ℕ
    heights = heights_of p.rows ++ heights_of p.below

    most : ℕ
    most = last_of 0 (heights_of (frame_rows latch σ m)) - last_of 0 (lines_of (frame latch σ m).rows) + height_above (picture (pos n) soft latch σ m).below

    rows : sum (heights_of p.rows) ≡ lines + (last_of 0 (heights_of (frame_rows latch σ m)) - last_of 0 (lines_of (frame latch σ m).rows))
    rows = fills-last 0 0 line (rows_fill latch σ m w ok)

    all : sum heights ≡ lines + most
    all = omega (arith, sum-append (heights_of p.rows) (heights_of p.below), rows, one-sum (picture (pos n) soft latch σ m).below)

    at : (y : ℕ) → y < lines → (line_on p y).background ≡ row_at (place heights (y + n))
    at y h = line-up p y (omega (arith, rows)) (le-ltb n 0 zero-le)

    enough : n ≤ most → Everywhere lines p
    enough h y k = has-row heights (y + n) (omega (arith, all)) (at y k)

    needs : Everywhere lines p → n ≤ most
    needs h = by (leb n most) refl
      where
        by : (t : Bool) → leb n most ≡ t → n ≤ most
        by true t = leb-true n most t
        by false t =
            let over = leb-false n most t in
            absurd (h (lines - 1) (omega arith) (at (lines - 1) (omega arith) ∙ ap row_at (place-past heights (lines - 1 + n) (omega (arith, all)))))
