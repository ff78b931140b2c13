-- Which row, and which of its scan lines, a line of the screen shows while a frame is shifted. Document 02 says "should glide" and
-- "windows stand still"; the rest is ours. Rows have heights, and stand one after the other.
use Rattle.std.specs.Prelude.{ℕ, suc, ◌+◌, ◌-◌, min, Bool, List, [], ◌∷◌, ℤ, pos, nat_abs, take, ltb, leb, Option, Some, None}
use Rattle.std.specs.Int.Signed.{lt_z}
use Rattle.memory.specs.Word.{when◌then◌else◌}
use Rattle.panel.specs.declared.Place.{Place}
use Rattle.panel.specs.declared.Background.{Background}
use Rattle.panel.specs.declared.Background.TheVariants.{Nothing, Row, Above}
use Rattle.panel.specs.declared.Line.{Line}

-- a place in rows: which row, which of its scan lines, and how many of them from there on
abbrev pub place_at : (index line left : ℕ) → Place
place_at index line left = record { index = index; line = line; left = left }

-- the same place, one row further on
abbrev pub later : Option Place → Option Place
later None = None
later (Some p) = Some (place_at (suc p.index) p.line p.left)

-- which of rows of heights hs, one after the other, has line z; none past them
unfoldable pub place : List ℕ → ℕ → Option Place
place [] z = None
place (h ∷ hs) z = when ltb z h then Some (place_at 0 z (h - z)) else later (place hs (z - h))

abbrev pub row_at : Option Place → Background
row_at None = Nothing
row_at (Some p) = Row p

-- Down by d lines, a line y of the first d: of the row above, which is h lines high (0 where there is none), its last d lines come down.
unfoldable pub above_at : (h d y : ℕ) → Background
above_at h d y = when leb d (h + y) then Above (place_at 0 (h + y - d) (d - y)) else Nothing

-- "positive up and negative down"
abbrev pub is_down : ℤ → Bool
is_down shift = lt_z shift (pos 0)

-- What glides, on line y: up, the frame's rows and then those below, `heights` of them all; down, the row above and then the frame's
-- rows, the first `rows` of them.
unfoldable pub background : ℤ → (above : ℕ) → (heights : List ℕ) → (rows y : ℕ) → Background
background shift above heights rows y =
    let d = nat_abs shift in
    when is_down shift
    then (when ltb y d then above_at above d y else row_at (place (take rows heights) (y - d)))
    else row_at (place heights (y + d))

-- What stands still, on line y: the frame's rows, where they are unshifted.
abbrev pub still : (heights : List ℕ) → (rows y : ℕ) → Option Place
still heights rows y = place (take rows heights) y

-- how many lines from y on have no row gliding, of `most`: up the rest, down those before the row above comes in
abbrev pub dark_lines : ℤ → (above y most : ℕ) → ℕ
dark_lines shift above y most = when is_down shift then min most (nat_abs shift - above - y) else most

-- how many lines from y on have the one background, of `most`
abbrev pub background_lines : ℤ → (above y most : ℕ) → Background → ℕ
background_lines shift above y most Nothing = dark_lines shift above y most
background_lines shift above y most (Row p) = min most p.left
background_lines shift above y most (Above p) = min most p.left

-- A line of the screen: what glides there, what stands still, and how many lines from it on have these two rows. Where no row stands
-- still nothing glides either: a window might stand there.
abbrev pub line_at : ℤ → (above : ℕ) → (heights : List ℕ) → (rows y : ℕ) → Option Place → Line
line_at shift above heights rows y None = record { background = Nothing; still = None; lines = 0 }
line_at shift above heights rows y (Some s) = record {
  background = background shift above heights rows y;
  still = Some s;
  lines = background_lines shift above y s.left (background shift above heights rows y);
}

unfoldable pub line : ℤ → (above : ℕ) → (heights : List ℕ) → (rows y : ℕ) → Line
line shift above heights rows y = line_at shift above heights rows y (still heights rows y)
