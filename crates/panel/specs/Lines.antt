-- How the lines of a shifted frame follow each other, of rows that each have a scan line. Statements; their proofs are in proofs/.
use Rattle.std.specs.Prelude.{ℕ, suc, ◌+◌, ◌-◌, ◌≤◌, ◌<◌, ◌≡◌, true, false, List, [], ◌∷◌, ℤ, pos, length, get_or, take, ltb, Option, Some, None}
use Rattle.memory.specs.Word.{when◌then◌else◌}
use Rattle.panel.specs.declared.Place.{Place}
use Rattle.panel.specs.declared.Background.{Background}
use Rattle.panel.specs.declared.Background.TheVariants.{Nothing, Row, Above}
use Rattle.panel.specs.Line.{place_at, place, row_at, is_down, background, still, line}

-- every row has a scan line
abbrev pub Tall : List ℕ → Type 0
Tall hs = (i : ℕ) → i < length hs → 1 ≤ get_or hs i 0

-- line 0 of row i, where there is such a row
abbrev pub row_from : List ℕ → ℕ → Option Place
row_from hs i = when ltb i (length hs) then Some (place_at i 0 (get_or hs i 0)) else None

-- the place after another: the next scan line of its row, or from its last one line 0 of the row that follows
abbrev pub next : List ℕ → Option Place → Option Place
next hs None = None
next hs (Some p) = when ltb 1 p.left then Some (place_at p.index (suc p.line) (p.left - 1)) else row_from hs (suc p.index)

-- a place in rows: its row is there, and has the scan lines before it and those from it on, of which it is one
pub record Within (hs : List ℕ) (p : Place) : Type 0 where
  pub index : p.index < length hs
  pub height : p.line + p.left ≡ get_or hs p.index 0
  pub some : 1 ≤ p.left

-- From a line to the next in rows one after the other, past the last row too.
abbrev pub PlaceFollows : Type 0
PlaceFollows = (hs : List ℕ) → Tall hs → (z : ℕ) → place hs (suc z) ≡ next hs (place hs z)

-- what glides after another: the same of rows `hs`, and of the row above, which row 0 follows
abbrev pub next_background : List ℕ → Background → Background
next_background hs Nothing = Nothing
next_background hs (Row p) = row_at (next hs (Some p))
next_background hs (Above p) = when ltb 1 p.left then Above (place_at 0 (suc p.line) (p.left - 1)) else row_at (row_from hs 0)

-- the rows that glide, besides the row above
abbrev pub gliding_rows : ℤ → List ℕ → ℕ → List ℕ
gliding_rows shift heights rows = when is_down shift then take rows heights else heights

-- From a line with a background to the next; and where there is none: up it stays so, down it was so from the first line on, of the
-- lines where a row stands still.
pub record Follows (shift : ℤ) (above : ℕ) (heights : List ℕ) (rows : ℕ) : Type 0 where
  pub next : (y : ℕ) → (background shift above heights rows y ≡ Nothing → ⊥)
      → background shift above heights rows (suc y) ≡ next_background (gliding_rows shift heights rows) (background shift above heights rows y)
  pub row : (y : ℕ) (p : Place) → background shift above heights rows y ≡ Row p → Within (gliding_rows shift heights rows) p
  pub whole : (y : ℕ) (p : Place) → background shift above heights rows y ≡ Above p → (p.line + p.left ≡ above) × (1 ≤ p.left)
  pub last : is_down shift ≡ false → (y : ℕ) → background shift above heights rows y ≡ Nothing → background shift above heights rows (suc y) ≡ Nothing
  pub first : is_down shift ≡ true → (y : ℕ) (s : Place) → (background shift above heights rows y ≡ Nothing → ⊥)
      → still heights rows (suc y) ≡ Some s → background shift above heights rows (suc y) ≡ Nothing → ⊥

-- Without a shift, what glides is what stands still.
abbrev pub Unshifted : Type 0
Unshifted = (above : ℕ) (heights : List ℕ) (rows y : ℕ) (s : Place) → still heights rows y ≡ Some s → background (pos 0) above heights rows y ≡ Row s

-- the same row, k scan lines on
abbrev pub on : ℕ → Place → Place
on k p = place_at p.index (p.line + k) (p.left - k)

abbrev pub background_on : ℕ → Background → Background
background_on k Nothing = Nothing
background_on k (Row p) = Row (on k p)
background_on k (Above p) = Above (on k p)

-- which row glides, whatever its scan line
abbrev pub which : Background → List ℕ
which Nothing = []
which (Row p) = 1 ∷ p.index ∷ []
which (Above p) = 2 ∷ []

-- A stretch, the lines from y on that `line` counts where s stands still: they have its two rows, and the line after them has not both.
pub record Stretch (shift : ℤ) (above : ℕ) (heights : List ℕ) (rows y : ℕ) (s : Place) (n : ℕ) : Type 0 where
  pub some : 1 ≤ n
  pub stands : (k : ℕ) → k < n → still heights rows (y + k) ≡ Some (on k s)
  pub glides : (k : ℕ) → k < n → background shift above heights rows (y + k) ≡ background_on k (background shift above heights rows y)
  pub ends : (t : Place) → still heights rows (y + n) ≡ Some t → t.index ≡ s.index
      → which (background shift above heights rows (y + n)) ≡ which (background shift above heights rows y) → ⊥

abbrev pub Stretches : Type 0
Stretches = (shift : ℤ) (above : ℕ) (heights : List ℕ) (rows y : ℕ) (s : Place) → Tall heights → still heights rows y ≡ Some s
    → Stretch shift above heights rows y s (line shift above heights rows y).lines
