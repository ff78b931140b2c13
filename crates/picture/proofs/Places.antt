-- A line has a place in rows exactly where it is above their heights together; and the rows after it do not matter.
use Rattle.std.proofs.Common.{Option, Some, None}
use mathlib.Core.Path.{◌≡◌, refl, ap, ◌∙◌}
use mathlib.Core.Bool.{Bool, true, false}
use mathlib.Core.List.{List, [], ◌∷◌, ◌++◌}
use Prim.Native.Nat.{ℕ, ◌+◌, ◌-◌, ◌≤◌, ◌<◌}
use native.Mathlib.Omega.{arith}
use lib.IntN.{ℤ, nat_abs}
use lib.ListN.{length}
use lib.Dec.{ltb}
use borrow.Author.Tests.{ltb-false, lt-ltb, le-ltb}
use Rattle.memory.proofs.ReadBounds.{if-cases}
use Rattle.memory.specs.Word.{when◌then◌else◌}
use Rattle.panel.specs.declared.Background.TheVariants.{Nothing}
use Rattle.panel.specs.Line.{place_at, later, place, row_at, above_at, is_down, background, still, line_at, line}
use Rattle.panel.specs.declared.Place.{Place}
use Rattle.picture.specs.Picture.{PictureRow, Picture, height_above, heights_of, line_on}
use Rattle.picture.specs.EveryLine.{last_of}
use Rattle.picture.specs.Heights.{Fills, empty, last, whole}
use Rattle.picture.proofs.Still.{take-heights}

abbrev pub sum : List ℕ → ℕ
sum [] = 0
sum (h ∷ hs) = h + sum hs

pub sum-append : (hs ks : List ℕ) → sum (hs ++ ks) ≡ sum hs + sum ks
sum-append [] ks = omega arith
sum-append (h ∷ hs) ks = omega (arith, sum-append hs ks)

-- no place is one
pub nowhere-at : {B : Type 0} {p : Option Place} → p ≡ None → (p ≡ None → ⊥) → B
nowhere-at e h = absurd (h e)

later-nowhere : (p : Option Place) → later p ≡ None → p ≡ None
later-nowhere None e = refl
later-nowhere (Some p) e = let z : ◌≡◌ {A = ℕ} 0 1 = cc in absurd (omega arith)

pub row-nowhere : (p : Option Place) → row_at p ≡ Nothing → p ≡ None
row-nowhere None e = refl
row-nowhere (Some p) e = let z : ◌≡◌ {A = ℕ} 0 1 = cc in absurd (omega arith)

pub place-within : (hs : List ℕ) (z : ℕ) → z < sum hs → place hs z ≡ None → ⊥
unfolding place
place-within [] z h = absurd (omega arith)
place-within (x ∷ hs) z h =
    if-cases (λ (p : Option Place). p ≡ None → ⊥) (ltb z x) (λ t e. let n : ◌≡◌ {A = ℕ} 0 1 = cc in omega arith)
    (λ t e. place-within hs (z - x) (omega (arith, ltb-false z x t)) (later-nowhere _ e))

pub place-past : (hs : List ℕ) (z : ℕ) → sum hs ≤ z → place hs z ≡ None
unfolding place
place-past [] z h = refl
place-past (x ∷ hs) z h = rw (le-ltb z x (omega arith), place-past hs (z - x) (omega arith))

-- heights that are the same as far as both lists go: a line that both have has one place in them
pub data Along : List ℕ → List ℕ → Type 0 where
  left : {ks : List ℕ} → Along [] ks
  right : {hs : List ℕ} → Along hs []
  both : {h : ℕ} {hs ks : List ℕ} → Along hs ks → Along (h ∷ hs) (h ∷ ks)

pub along-place : {hs ks : List ℕ} → Along hs ks → (z : ℕ) → z < sum hs → z < sum ks → place hs z ≡ place ks z
unfolding place
along-place left z h k = absurd (omega arith)
along-place right z h k = absurd (omega arith)
along-place (both {h = x} {hs} {ks} a) z h k = by (λ past. along-place a (z - x) (omega arith) (omega arith)) (ltb z x) refl
  where
    by : (x ≤ z → place hs (z - x) ≡ place ks (z - x)) → (t : Bool) → ltb z x ≡ t
        → (when t then Some (place_at 0 z (x - z)) else later (place hs (z - x))) ≡ (when t then Some (place_at 0 z (x - z)) else later (place ks (z - x)))
    by go_on true e = refl
    by go_on false e = ap later (go_on (ltb-false z x e))

front : (hs ks : List ℕ) → Along (hs ++ ks) hs
front [] ks = right
front (x ∷ hs) ks = both (front hs ks)

pub place-front : (hs ks : List ℕ) (z : ℕ) → z < sum hs → place (hs ++ ks) z ≡ place hs z
place-front hs ks z h = along-place (front hs ks) z (omega (arith, sum-append hs ks)) h

-- past a whole row
pub place-next : (x : ℕ) (hs : List ℕ) (z : ℕ) → place (x ∷ hs) (z + x) ≡ later (place hs z)
unfolding place
place-next x hs z =
    let same : z + x - x ≡ z = omega arith in
    rw (le-ltb (z + x) x (omega arith), same)

-- ---- rows that fill the screen ----
pub fills-sum : {n : ℕ} {hs ls : List ℕ} → Fills n hs ls → n ≤ sum hs
fills-sum empty = omega arith
fills-sum (last a b) = omega arith
fills-sum (whole a k) = omega (arith, fills-sum k)

-- what the last row has more than the screen has lines for
pub fills-last : {n : ℕ} {hs ls : List ℕ} (a b : ℕ) → 1 ≤ n → Fills n hs ls → sum hs ≡ n + (last_of a hs - last_of b ls)
unfolding last_of
fills-last a b one empty = absurd (omega arith)
fills-last a b one (last c d) = omega arith
fills-last a b one (whole {h} c k) = omega (arith, fills-last h h c k)

-- ---- lines of a picture ----
heights-append : (rs bs : List PictureRow) → heights_of (rs ++ bs) ≡ heights_of rs ++ heights_of bs
heights-append [] bs = refl
heights-append (r ∷ rs) bs = ap (λ (hs : List ℕ). r.height ∷ hs) (heights-append rs bs)

still-line : (shift : ℤ) (above : ℕ) (heights : List ℕ) (rows y : ℕ) → (still heights rows y ≡ None → ⊥)
    → (line shift above heights rows y).background ≡ background shift above heights rows y
unfolding line
still-line shift above heights rows y h = by (still heights rows y) h
  where
    by : (s : Option Place) → (s ≡ None → ⊥) → (line_at shift above heights rows y s).background ≡ background shift above heights rows y
    by None h = absurd (h refl)
    by (Some s) h = refl

-- on a line where a row stands still
module _ (p : Picture) (y : ℕ) (on : y < sum (heights_of p.rows)) where
  there : (line_on p y).background ≡ background p.shift (height_above p.above) (heights_of (p.rows ++ p.below)) (length p.rows) y
  unfolding line_on
  there =
      still-line p.shift (height_above p.above) (heights_of (p.rows ++ p.below)) (length p.rows) y
      (rw (take-heights p.rows p.below) (place-within (heights_of p.rows) y on))

  pub line-up : is_down p.shift ≡ false → (line_on p y).background ≡ row_at (place (heights_of p.rows ++ heights_of p.below) (y + nat_abs p.shift))
  unfolding background
  line-up h = there ∙ rw (h, heights-append p.rows p.below)

  pub line-above : is_down p.shift ≡ true → y < nat_abs p.shift → (line_on p y).background ≡ above_at (height_above p.above) (nat_abs p.shift) y
  unfolding background
  line-above h k = there ∙ rw (h, lt-ltb y (nat_abs p.shift) k)

  pub line-down : is_down p.shift ≡ true → nat_abs p.shift ≤ y → (line_on p y).background ≡ row_at (place (heights_of p.rows) (y - nat_abs p.shift))
  unfolding background
  line-down h k = there ∙ rw (h, le-ltb y (nat_abs p.shift) k, take-heights p.rows p.below)
