-- The cells that a line of the screen shows, from the row that stands still there and the row that glides there. "windows stand still"
-- (02): in the columns of the still row's window it is that row's cell; elsewhere the gliding row's, or what is behind its window.
use Rattle.std.specs.Prelude.{ℕ, zero, suc, ◌+◌, ◌-◌, ◌*◌, ◌/◌, ◌%◌, ◌^◌, Bool, true, false, ◌&&◌, ◌||◌, List, [], ◌∷◌, length, get_or, replicate, leb, eqb}
use Rattle.memory.specs.Word.{when◌then◌else◌}
use Rattle.panel.specs.declared.Columns.{Columns}

-- a row on the screen: its cells, 132 or, where there is no row, none; and the columns of the window on it
pub record Layer : Type 0 where
  pub cells : List ℕ
  pub columns : Columns

abbrev pub layer : List ℕ → Columns → Layer
layer cells columns = record { cells = cells; columns = columns }

-- a window has its columns, first to last; where there is none the first is past the last
abbrev pub no_columns : Columns
no_columns = record { first = 1; last = 0 }

abbrev pub in_columns : Columns → ℕ → Bool
in_columns c x = leb c.first x && leb x c.last

-- nothing to show, a dark place: bit 23, which no row sets
abbrev pub nothing : ℕ
nothing = 2 ^ 23

-- the cell of a row in column x
abbrev pub cell_in : List ℕ → ℕ → ℕ
cell_in cells x = get_or cells x nothing

-- what glides in column x: of a row with a window there, the cell behind it
abbrev pub gliding_cell : Layer → (behind : List ℕ) → ℕ → ℕ
gliding_cell b behind x = when in_columns b.columns x then cell_in behind x else cell_in b.cells x

abbrev pub background_cell : Layer → (behind : List ℕ) → List ℕ → ℕ → ℕ
background_cell b behind [] x = nothing
background_cell b behind (c ∷ cs) x = gliding_cell b behind x

-- The absolute cursor, bit 22, stays (000): a cell without its own, with the still row's.
abbrev pub cursor_bit : ℕ → ℕ
cursor_bit cell = cell / 2 ^ 22 % 2 * 2 ^ 22

unfoldable pub with_cursor_of : (still cell : ℕ) → ℕ
with_cursor_of still cell = cell - cursor_bit cell + cursor_bit still

unfoldable pub shown_cell : Layer → Layer → (behind : List ℕ) → ℕ → ℕ
shown_cell s b behind x =
    when in_columns s.columns x
    then cell_in s.cells x
    else with_cursor_of (cell_in s.cells x) (background_cell b behind b.cells x)

-- n cells from column x on
unfoldable pub cells_from : (ℕ → ℕ) → (n x : ℕ) → List ℕ
cells_from f zero x = []
cells_from f (suc n) x = f x ∷ cells_from f n (suc x)

-- the 132 cells of a line; where no row stands still nothing is shown
abbrev pub shown_by : Layer → Layer → (behind : List ℕ) → List ℕ → List ℕ
shown_by s b behind [] = replicate 132 nothing
shown_by s b behind (c ∷ cs) = cells_from (shown_cell s b behind) 132 0

unfoldable pub shown : Layer → Layer → (behind : List ℕ) → List ℕ
shown s b behind = shown_by s b behind s.cells

-- slices of cells are 132 long, or 0 where there is no row
abbrev pub sized : List ℕ → Bool
sized cells = eqb (length cells) 132 || eqb (length cells) 0

-- a call's answer, whether it was accepted, and what stands in its 132 cells
pub record ShowCalled : Type 0 where
  pub accepted : Bool
  pub cells : List ℕ

abbrev pub show_called : Bool → List ℕ → ShowCalled
show_called accepted cells = record { accepted = accepted; cells = cells }

unfoldable pub show_call : Layer → Layer → (behind cells : List ℕ) → ShowCalled
show_call s b behind cells =
    when sized s.cells && sized b.cells && sized behind && eqb (length cells) 132
    then show_called true (shown s b behind)
    else show_called false cells
