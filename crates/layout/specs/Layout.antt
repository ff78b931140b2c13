-- Document 01, "A row, left to right": widths of segments, boundaries, and the segments that a window covers.
use Rattle.std.specs.Prelude.{ℕ, ◌+◌, Bool, true, ◌&&◌, ◌||◌, not, List, [], ◌∷◌, ltb, leb, eqb}
use Rattle.memory.specs.Word.{when◌then◌else◌}
use Rattle.blocks.specs.declared.Segment.{Segment}
use Rattle.memory.specs.Address.{null}
use Rattle.layout.specs.declared.Side.{Side}
use Rattle.layout.specs.declared.Side.TheVariants.{Whole, Before, After}

-- "Segment width: V, or L with DH. .. With a null code pointer the width is V"
unfoldable pub width : Bool → Segment → ℕ
width hidden g = when hidden && not (null g.codes) then g.length else g.visible

-- the widths' sum
unfoldable pub total : Bool → List Segment → ℕ
total hidden [] = 0
total hidden (g ∷ gs) = width hidden g + total hidden gs

-- Refusal 9: "V > L, code pointer not null"
abbrev pub fits : Segment → Bool
fits g = null g.codes || leb g.visible g.length

unfoldable pub all_fit : List Segment → Bool
all_fit [] = true
all_fit (g ∷ gs) = fits g && all_fit gs

-- whether a place is a boundary of the segments from the place s on: "every place at or past the segments' sum is one (ours)"
unfoldable pub boundary : Bool → ℕ → List Segment → ℕ → Bool
boundary hidden s [] place = leb s place
boundary hidden s (g ∷ gs) place = eqb s place || boundary hidden (s + width hidden g) gs place

-- the window on a row: none, or its number, first column, the column after its last, and its segments
pub data Overlay : Type 0 where
  none : Overlay
  over : (number first end : ℕ) → List Segment → Overlay

-- Refusal 12: "The window's edges must fall on background segment boundaries"
unfoldable pub edges_fit : Bool → Overlay → List Segment → Bool
edges_fit hidden none gs = true
edges_fit hidden (over number first end ws) gs = boundary hidden 0 gs first && boundary hidden 0 gs end

-- "A background segment from s of width w is covered, and not read, when first <= s and s+w <= last+1."
unfoldable pub covered : ℕ → ℕ → ℕ → ℕ → Bool
covered first end s w = leb first s && leb (s + w) end

-- whether a background segment from s of width w is drawn on a side: in a row without a window; before a window, where it begins
-- before the first column; after it, where it does not and is not covered
unfoldable pub on_side : Side → ℕ → ℕ → Bool
on_side Whole s w = true
on_side (Before first) s w = ltb s first
on_side (After first end) s w = not (ltb s first) && not (covered first end s w)

-- of the segments from the place s on, those on a side
unfoldable pub segments_on : Side → Bool → ℕ → List Segment → List Segment
segments_on side hidden s [] = []
segments_on side hidden s (g ∷ gs) =
    let w : ℕ = width hidden g in
    let rest : List Segment = segments_on side hidden (s + w) gs in
    when on_side side s w then g ∷ rest else rest
