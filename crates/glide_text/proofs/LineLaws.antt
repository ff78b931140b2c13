-- What a line of the screen shows, as going through the rows finds it: the row that stands still, and the row that glides.
use Rattle.std.proofs.Common.{◌≡◌, ℕ, ◌+◌, ◌-◌, ◌<◌, false, List, ◌++◌, length, nat_abs, refl, ap, ◌∙◌, arith, le-ltb, lt-ltb, Option, Some, None}
use Rattle.panel.specs.Line.{place_at, row_at, place, is_down, background, still}
use Rattle.panel.specs.declared.Place.{Place}
use Rattle.picture.specs.Picture.{PictureRow, Picture, height_above, heights_of, still_row, gliding_row}
use Rattle.finding.specs.Finding.{Located, located, beyond, locate}
use Rattle.finding.proofs.PlaceLaws.{placed_of, row_of, place_found, row_in, row-found, first-heights, and_then, locate-then, counted, locate-counted, locate-below}
use Rattle.glide_lines.specs.declared.Gliding.{Gliding}
use Rattle.glide_lines.specs.declared.Gliding.TheVariants.{Nothing, Row, Below}
use Rattle.glide_text.specs.FrameText.{part_of, gliding_of}

-- a located row from its scan line on
abbrev pub as_row : Located → (ℕ → Gliding) → Gliding
as_row (located j l r) past = Row (part_of (place_at j l (r.height - l)) r)
as_row (beyond k) past = past k

abbrev pub as_below : Located → Gliding
as_below (located j l r) = Below (part_of (place_at j l (r.height - l)) r)
as_below (beyond k) = Nothing

module _ (p : Picture) where
  abbrev all : List PictureRow
  all = p.rows ++ p.below

  row-still : (x : Option Place) → still_row p x ≡ row_in p.rows x
  row-still None = refl
  row-still (Some s) = refl

  row-glides : (x : Option Place) → gliding_row p (row_at x) ≡ row_in all x
  row-glides None = refl
  row-glides (Some s) = refl

  -- what stands still on line y
  pub still-found : (y : ℕ) → still (heights_of all) (length p.rows) y ≡ placed_of (locate 0 p.rows y)
  still-found y = rw (first-heights p.rows p.below) (place_found p.rows y)

  pub still-row : (y : ℕ) → still_row p (still (heights_of all) (length p.rows) y) ≡ row_of (locate 0 p.rows y)
  still-row y =
      rw (first-heights p.rows p.below) (row-still (place (heights_of p.rows) y) ∙ row-found 0 p.rows y)

  -- the text of a row that is found in the frame's rows, or past them in those below
  in_rows : (n : ℕ) (x : Located) (b : ℕ → Located) → ((j l : ℕ) (r : PictureRow) → x ≡ located j l r → j < n)
      → gliding_of n (row_at (placed_of (and_then x (λ k. counted n (b k))))) (row_of (and_then x (λ k. counted n (b k)))) ≡ as_row x (λ k. as_below (b k))
  in_rows n (located j l r) b h = rw (lt-ltb j n (h j l r refl))
  in_rows n (beyond k) b h = in-below (b k)
    where
      in-below : (x : Located) → gliding_of n (row_at (placed_of (counted n x))) (row_of (counted n x)) ≡ as_below x
      in-below (located j l r) =
          let e : n + j - n ≡ j = omega arith in
          rw (le-ltb (n + j) n (omega arith), e)
      in-below (beyond k) = refl

  then_same : (x : Located) (f g : ℕ → Located) → ((k : ℕ) → f k ≡ g k) → and_then x f ≡ and_then x g
  then_same (located j l r) f g e = refl
  then_same (beyond k) f g e = e k

  abbrev pub count : ℕ
  count = length p.rows

  -- past the frame's rows, those below are counted from 0
  all_found : (k : ℕ) → locate 0 all k ≡ and_then (locate 0 p.rows k) (λ i. counted count (locate 0 p.below i))
  all_found k =
      locate-then 0 p.rows p.below k
      ∙ then_same (locate 0 p.rows k) _ _ (λ i. ap (λ (n : ℕ). locate n p.below i) (omega arith) ∙ locate-counted count 0 p.below i)

  -- what glides, up: in the frame's rows, and then in those below
  module _ (up : is_down p.shift ≡ false) (y : ℕ) where
    abbrev z : ℕ
    z = y + nat_abs p.shift

    pub background-up : background p.shift (height_above p.above) (heights_of all) (length p.rows) y ≡ row_at (placed_of (locate 0 all z))
    unfolding background
    background-up = rw up (ap row_at (place_found all z))

    pub row_up : gliding_row p (row_at (placed_of (locate 0 all z))) ≡ row_of (locate 0 all z)
    row_up = rw (← place_found all z) (row-glides (place (heights_of all) z) ∙ row-found 0 all z)

    inside : (j l : ℕ) (r : PictureRow) → locate 0 p.rows z ≡ located j l r → j < count
    inside j l r e = omega (arith, rw e at (locate-below 0 p.rows z))

    pub gliding-up : gliding_of count (row_at (placed_of (locate 0 all z))) (row_of (locate 0 all z))
        ≡ as_row (locate 0 p.rows z) (λ k. as_below (locate 0 p.below k))
    gliding-up = rw (all_found z) (in_rows count (locate 0 p.rows z) (locate 0 p.below) inside)
