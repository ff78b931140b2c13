-- A line of the panel as seven numbers: what glides there (0 nothing, 1 a row, 2 the row above), its index and its scan line; what
-- stands still there (0 nothing, 1 a row), its index and its scan line; how many lines from it on have these two.
use Rattle.std.specs.List.{list_all}
use Rattle.std.specs.Prelude.{ℕ, Bool, ◌&&◌, List, [], ◌∷◌, ℤ, nat_abs, length, leb, Option, Some, None}
use Rattle.panel.specs.declared.Background.{Background}
use Rattle.panel.specs.declared.Background.TheVariants.{Nothing, Row, Above}
use Rattle.panel.specs.declared.Line.{Line}
use Rattle.panel.specs.declared.Place.{Place}
use Rattle.line_numbers.specs.declared.Spot.{Spot}

abbrev pub spot_at : (kind index line : ℕ) → Spot
spot_at kind index line = record { kind = kind; index = index; line = line }

abbrev pub background_spot : Background → Spot
background_spot Nothing = spot_at 0 0 0
background_spot (Row p) = spot_at 1 p.index p.line
background_spot (Above p) = spot_at 2 p.index p.line

abbrev pub still_spot : Option Place → Spot
still_spot None = spot_at 0 0 0
still_spot (Some p) = spot_at 1 p.index p.line

abbrev pub spot_numbers : Spot → List ℕ → List ℕ
spot_numbers s rest = s.kind ∷ s.index ∷ s.line ∷ rest

unfoldable pub line_numbers : Line → List ℕ
line_numbers l = spot_numbers (background_spot l.background) (spot_numbers (still_spot l.still) (l.lines ∷ []))

-- a row has 1 to 32 scan lines
abbrev pub is_height : ℕ → Bool
is_height h = leb 1 h && leb h 32

abbrev pub are_heights : List ℕ → Bool
are_heights hs = list_all is_height hs

-- What a line can be asked of: a shift within 31 lines, a row above of at most 32 lines (0 where there is none), rows as they can be, of
-- which `rows` are the frame's, and no more than have a number of 32 bits.
unfoldable pub line_asked : ℤ → (above : ℕ) → (heights : List ℕ) → (rows : ℕ) → Bool
line_asked shift above heights rows =
    (leb (nat_abs shift) 31 && leb above 32) && (leb rows (length heights) && leb (length heights) 4294967295) && are_heights heights
