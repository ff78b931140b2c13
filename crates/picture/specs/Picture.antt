-- The picture of a shifted frame. Document 02: "Long bulletins should glide; windows stand still." What a panel shows of it, line by
-- line, is ours: the rows are those of starts and row calls, and no rule of a row is said again.
use Rattle.std.specs.Prelude.{ℕ, ◌&&◌, List, [], ◌∷◌, ◌++◌, map, ℤ, pos, nat_abs, length, drop, leb, Option, Some, None, Result, Ok, Err}
use Rattle.std.proofs.Math.Option.{Option as Maybe, none, some}
use Rattle.std.specs.Int.Signed.{lt_z}
use Rattle.memory.specs.Word.{when◌then◌else◌}
use Rattle.memory.specs.declared.Refusal.{Refusal}
use Rattle.settings.specs.declared.PointerWords.{PointerWords}
use Rattle.settings.specs.declared.Settings.{Settings}
use Rattle.blocks.specs.declared.RowFormat.{RowFormat}
use Rattle.windows.specs.declared.Window.{Window}
use Rattle.state.specs.declared.State.{State}
use Rattle.state.specs.State.{state_of}
use Rattle.row.specs.Row.{Called, row_call}
use Rattle.frame.specs.declared.Progress.{Progress}
use Rattle.frame.specs.Step.{begin}
use Rattle.frame.specs.Frame.{FrameRow, Frame, blank, within, rest, frame}
use Rattle.beside.specs.Beside.{with_top}
use Rattle.panel.specs.declared.Columns.{Columns}
use Rattle.panel.specs.declared.Background.{Background}
use Rattle.panel.specs.declared.Background.TheVariants.{Nothing, Row, Above}
use Rattle.panel.specs.declared.Line.{Line}
use Rattle.panel.specs.Line.{is_down, line}
use Rattle.panel.specs.Shown.{Layer, layer, no_columns, shown}
use Rattle.panel.specs.declared.Place.{Place}
use Rattle.row.specs.declared.DrawnRow.{DrawnRow}

-- A row of the picture is an accepted row call: number, format, cells; its height, the scan lines of the next state (its lines may be
-- cut, or be the one of the row beside the cut); the columns of the window on it; and what is behind that window.
pub record PictureRow : Type 0 where
  pub number : ℕ
  pub format : RowFormat
  pub height : ℕ
  pub cells : List ℕ
  pub columns : Columns
  pub behind : List ℕ

-- the columns of the next state's window in hand, where "On its rows a window replaces its columns"; source 2 does not tell them, as
-- fill in a window has source 0
unfoldable pub columns_of : ℕ → Option Window → Columns
columns_of number None = no_columns
columns_of number (Some w) =
    when leb w.block.top number && leb number w.block.bottom
    then record { first = w.block.left; last = w.block.right }
    else no_columns

-- the state before a row, with no window in hand
abbrev pub without_window : State → State
without_window s = state_of s.latch (record {
  row = s.fields.row;
  left = s.fields.left;
  cursor = s.fields.cursor;
  fill = s.fields.fill;
  format = s.fields.format;
  next = s.fields.next;
  window = None;
})

-- Behind a row that has columns: the cells of the same row call on the state before the row with no window in hand; none where that is
-- refused. Its state, latch, count and refusal go nowhere.
abbrev pub cells_if : Result DrawnRow Refusal → List ℕ → List ℕ
cells_if (Ok d) cells = cells
cells_if (Err r) cells = []

abbrev pub accepted_cells : Called → List ℕ
accepted_cells c = cells_if c.answer c.buffer

abbrev pub behind_in : Settings → List ℕ → State → Columns → List ℕ
behind_in σ m before c = when leb c.first c.last then accepted_cells (row_call σ m (without_window before) blank) else []

unfoldable pub picture_row : Settings → List ℕ → State → FrameRow → PictureRow
picture_row σ m before r =
    let columns = columns_of r.answer.number r.answer.next.fields.window in record {
      number = r.answer.number;
      format = r.answer.format;
      height = r.answer.next.fields.format.lines;
      cells = r.cells;
      columns = columns;
      behind = behind_in σ m before columns;
    }

-- rows one after the other, each on the state that the one before gave
unfoldable pub picture_rows : Settings → List ℕ → State → List FrameRow → List PictureRow
picture_rows σ m before [] = []
picture_rows σ m before (r ∷ rs) = picture_row σ m before r ∷ picture_rows σ m r.answer.next rs

-- the rows of a frame in progress
abbrev pub rows_from : Settings → List ℕ → Progress → List PictureRow
rows_from σ m p = picture_rows σ m p.state (rest σ m p).rows

abbrev pub begun_rows : Settings → List ℕ → Result Progress Refusal → List PictureRow
begun_rows σ m (Ok p) = rows_from σ m p
begun_rows σ m (Err r) = []

-- the frame's accepted rows
unfoldable pub frame_rows : ℕ → Settings → List ℕ → List PictureRow
frame_rows latch σ m = begun_rows σ m (begin latch σ m)

-- Rows that come in below: of an accepted frame, row calls on from the state it ended with, lines left set to the shift, until none is
-- left or one is refused. (One is not enough where it is lower than the shift.)
abbrev pub with_lines : ℕ → State → State
with_lines n s = state_of s.latch (record {
  row = s.fields.row;
  left = n;
  cursor = s.fields.cursor;
  fill = s.fields.fill;
  format = s.fields.format;
  next = s.fields.next;
  window = s.fields.window;
})

abbrev pub onward : ℕ → State → Progress
onward n s = record { state = with_lines n s; words = 0 }

abbrev pub below_of : Settings → List ℕ → ℕ → Maybe Refusal → Maybe State → List PictureRow
below_of σ m n none (some s) = rows_from σ m (onward n s)
below_of σ m n none none = []
below_of σ m n (some r) s = []

unfoldable pub below_rows : Settings → List ℕ → ℕ → Frame → List PictureRow
below_rows σ m n f = below_of σ m n f.refusal f.state

-- The row that comes in above: row 0 of a start at the soft top from the frame's start latch, where both are accepted. A refusal of rows
-- that come in is no part of the frame's.
abbrev pub first_row : Settings → List ℕ → Result Progress Refusal → List PictureRow
first_row σ m (Ok p) = picture_rows σ m p.state (within 1 σ m p).rows
first_row σ m (Err r) = []

unfoldable pub above_row : ℕ → Settings → List ℕ → List PictureRow
above_row latch σ m = first_row σ m (begin latch σ m)

-- the picture of a frame: its shift, its accepted rows, those that come in, and the frame's refusal
pub record Picture : Type 0 where
  pub shift : ℤ
  pub above : List PictureRow
  pub rows : List PictureRow
  pub below : List PictureRow
  pub refusal : Maybe Refusal

unfoldable pub picture : ℤ → (soft : PointerWords) → ℕ → Settings → List ℕ → Picture
picture shift soft latch σ m = record {
  shift = shift;
  above = when is_down shift then above_row latch (with_top σ soft) m else [];
  rows = frame_rows latch σ m;
  below = when lt_z (pos 0) shift then below_rows σ m (nat_abs shift) (frame latch σ m) else [];
  refusal = (frame latch σ m).refusal;
}

-- the height of the row above, 0 where there is none
abbrev pub height_above : List PictureRow → ℕ
height_above [] = 0
height_above (r ∷ rs) = r.height

abbrev pub heights_of : List PictureRow → List ℕ
heights_of rs = map (λ (r : PictureRow). r.height) rs

-- line y of the screen, y below the lines for rows
unfoldable pub line_on : Picture → ℕ → Line
line_on p y = line p.shift (height_above p.above) (heights_of (p.rows ++ p.below)) (length p.rows) y

-- the first of rows, if there is one
abbrev pub first : List PictureRow → Maybe PictureRow
first [] = none
first (r ∷ rs) = some r

-- the row that stands still on a line, and the row that glides there
abbrev pub still_row : Picture → Option Place → Maybe PictureRow
still_row p None = none
still_row p (Some s) = first (drop s.index p.rows)

abbrev pub gliding_row : Picture → Background → Maybe PictureRow
gliding_row p Nothing = none
gliding_row p (Row b) = first (drop b.index (p.rows ++ p.below))
gliding_row p (Above b) = first p.above

-- a row's cells with its columns, and what is behind it
abbrev pub layer_of : Maybe PictureRow → Layer
layer_of none = layer [] no_columns
layer_of (some r) = layer r.cells r.columns

abbrev pub behind_of : Maybe PictureRow → List ℕ
behind_of none = []
behind_of (some r) = r.behind

-- the cells of a line
abbrev pub shown_of : Maybe PictureRow → Maybe PictureRow → List ℕ
shown_of s b = shown (layer_of s) (layer_of b) (behind_of b)

abbrev pub shown_at : Picture → Line → List ℕ
shown_at p l = shown_of (still_row p l.still) (gliding_row p l.background)

unfoldable pub shown_on : Picture → ℕ → List ℕ
shown_on p y = shown_at p (line_on p y)
