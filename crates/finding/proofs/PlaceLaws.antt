-- A line's place in rows by their heights, and the row there, as going through the rows finds them.
use Rattle.std.proofs.Common.{Option, Some, None}
use mathlib.Core.Path.{◌≡◌, refl, sym, ap, subst, ◌∙◌}
use mathlib.Core.Bool.{Bool, true, false}
use mathlib.Core.List.{List, [], ◌∷◌, ◌++◌}
use mathlib.Core.Option.{Option as Maybe, none, some}
use Prim.Native.Nat.{ℕ, suc, ◌+◌, ◌-◌, ◌<◌, ◌≤◌}
use native.Mathlib.Omega.{arith}
use native.Mathlib.Nat.{add-zero}
use lib.ListN.{length, take, drop}
use lib.Dec.{ltb}
use Rattle.memory.specs.Word.{when◌then◌else◌}
use Rattle.panel.specs.Line.{place_at, later, place}
use Rattle.panel.specs.declared.Place.{Place}
use Rattle.picture.specs.Picture.{PictureRow, heights_of, first}
use Rattle.finding.specs.Finding.{Located, located, beyond, locate}

-- the place of a located line, the row there, and how many rows further on it is counted
abbrev pub placed_of : Located → Option Place
placed_of (located j l r) = Some (place_at j l (r.height - l))
placed_of (beyond k) = None

abbrev pub row_of : Located → Maybe PictureRow
row_of (located j l r) = some r
row_of (beyond k) = none

abbrev moved : ℕ → Option Place → Option Place
moved i None = None
moved i (Some p) = Some (place_at (i + p.index) p.line p.left)

moved_later : (i : ℕ) (p : Option Place) → moved i (later p) ≡ moved (suc i) p
moved_later i None = refl
moved_later i (Some p) = ap (λ (n : ℕ). Some (place_at n p.line p.left)) (omega arith)

module _ (r : PictureRow) (rs : List PictureRow) (z : ℕ) where
  abbrev h : ℕ
  h = r.height

  by-test : (t : Bool) (i : ℕ) → moved (suc i) (place (heights_of rs) (z - h)) ≡ placed_of (locate (suc i) rs (z - h))
      → moved i (when t then Some (place_at 0 z (h - z)) else later (place (heights_of rs) (z - h))) ≡ placed_of (when t then located i z r else locate (suc i) rs (z - h))
  by-test true i e = ap (λ (n : ℕ). Some (place_at n z (h - z))) (add-zero i)
  by-test false i e = moved_later i (place (heights_of rs) (z - h)) ∙ e

moved-place : (i : ℕ) (rs : List PictureRow) (z : ℕ) → moved i (place (heights_of rs) z) ≡ placed_of (locate i rs z)
unfolding place locate
moved-place i [] z = refl
moved-place i (r ∷ rs) z = by-test r rs z (ltb z r.height) i (moved-place (suc i) rs (z - r.height))

moved_none : (p : Option Place) → moved 0 p ≡ p
moved_none None = refl
moved_none (Some p) = ap (λ (n : ℕ). Some (place_at n p.line p.left)) (omega arith)

-- the place of a line
pub place_found : (rs : List PictureRow) (z : ℕ) → place (heights_of rs) z ≡ placed_of (locate 0 rs z)
place_found rs z = sym (moved_none (place (heights_of rs) z)) ∙ moved-place 0 rs z

-- the row at a place
abbrev pub row_in : List PictureRow → Option Place → Maybe PictureRow
row_in rs None = none
row_in rs (Some p) = first (drop p.index rs)

row-later : (r : PictureRow) (rs : List PictureRow) (p : Option Place) → row_in (r ∷ rs) (later p) ≡ row_in rs p
row-later r rs None = refl
row-later r rs (Some p) = refl

module _ (r : PictureRow) (rs : List PictureRow) (z i : ℕ) where
  by-test-row : (t : Bool) → row_in rs (place (heights_of rs) (z - r.height)) ≡ row_of (locate (suc i) rs (z - r.height))
      → row_in (r ∷ rs) (when t then Some (place_at 0 z (r.height - z)) else later (place (heights_of rs) (z - r.height)))
      ≡ row_of (when t then located i z r else locate (suc i) rs (z - r.height))
  by-test-row true e = refl
  by-test-row false e = row-later r rs (place (heights_of rs) (z - r.height)) ∙ e

pub row-found : (i : ℕ) (rs : List PictureRow) (z : ℕ) → row_in rs (place (heights_of rs) z) ≡ row_of (locate i rs z)
unfolding place locate
row-found i [] z = refl
row-found i (r ∷ rs) z = by-test-row r rs z i (ltb z r.height) (row-found (suc i) rs (z - r.height))

-- the heights of the first rows
pub first-heights : (a b : List PictureRow) → take (length a) (heights_of (a ++ b)) ≡ heights_of a
first-heights [] b = refl
first-heights (r ∷ a) b = ap (λ (hs : List ℕ). r.height ∷ hs) (first-heights a b)

-- rows, and then others
abbrev pub and_then : Located → (ℕ → Located) → Located
and_then (located j l r) next = located j l r
and_then (beyond k) next = next k

by-test-then : (t : Bool) (j l : ℕ) (r : PictureRow) (x y : Located) (next : ℕ → Located) → y ≡ and_then x next
    → (when t then located j l r else y) ≡ and_then (when t then located j l r else x) next
by-test-then true j l r x y next e = refl
by-test-then false j l r x y next e = e

pub locate-then : (i : ℕ) (a b : List PictureRow) (z : ℕ) → locate i (a ++ b) z ≡ and_then (locate i a z) (locate (i + length a) b)
unfolding locate
locate-then i [] b z = ap (λ (n : ℕ). locate n b z) (sym (add-zero i))
locate-then i (r ∷ a) b z =
    by-test-then (ltb z r.height) i z r (locate (suc i) a (z - r.height)) (locate (suc i) (a ++ b) (z - r.height)) (locate (i + suc (length a)) b)
    (locate-then (suc i) a b (z - r.height) ∙ ap (λ (n : ℕ). and_then (locate (suc i) a (z - r.height)) (locate n b)) (omega arith))

-- rows that are counted from a number on
abbrev pub counted : ℕ → Located → Located
counted n (located j l r) = located (n + j) l r
counted n (beyond k) = beyond k

by-test-counted : (t : Bool) (n i z : ℕ) (r : PictureRow) (x y : Located) → x ≡ counted n y
    → (when t then located (n + i) z r else x) ≡ counted n (when t then located i z r else y)
by-test-counted true n i z r x y e = refl
by-test-counted false n i z r x y e = e

pub locate-counted : (n i : ℕ) (rs : List PictureRow) (z : ℕ) → locate (n + i) rs z ≡ counted n (locate i rs z)
unfolding locate
locate-counted n i [] z = refl
locate-counted n i (r ∷ rs) z =
    by-test-counted (ltb z r.height) n i z r (locate (suc (n + i)) rs (z - r.height)) (locate (suc i) rs (z - r.height))
    (ap (λ (k : ℕ). locate k rs (z - r.height)) (omega arith) ∙ locate-counted n (suc i) rs (z - r.height))

-- a located row's number is one of the rows'
abbrev Below : ℕ → Located → Type 0
Below n (located j l r) = j < n
Below n (beyond k) = 0 ≤ n

by-test-below : (t : Bool) (n i z : ℕ) (r : PictureRow) (x : Located) → i < n → Below n x → Below n (when t then located i z r else x)
by-test-below true n i z r x h b = h
by-test-below false n i z r x h b = b

pub locate-below : (i : ℕ) (rs : List PictureRow) (z : ℕ) → Below (i + length rs) (locate i rs z)
unfolding locate
locate-below i [] z = omega arith
locate-below i (r ∷ rs) z =
    by-test-below (ltb z r.height) (i + suc (length rs)) i z r (locate (suc i) rs (z - r.height)) (omega arith)
    (subst (λ (n : ℕ). Below n (locate (suc i) rs (z - r.height))) (omega arith) (locate-below (suc i) rs (z - r.height)))
