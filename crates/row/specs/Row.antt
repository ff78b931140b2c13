-- A row, and the row call with its row buffer.
use Rattle.std.specs.Prelude.{ℕ, ◌^◌, ◌<◌, ◌&&◌, List, length, get_or, set, eqb, Result, Ok, Err}
use Rattle.std.specs.Int.Bits.{bit_or}
use Rattle.memory.specs.Word.{when◌then◌else◌}
use Rattle.memory.specs.Reading.{Reading, done, fault, ◌>>=◌, Outcome, given, refused, refusal, run}
use Rattle.memory.specs.declared.Refusal.{Refusal}
use Rattle.settings.specs.declared.Settings.{Settings}
use Rattle.blocks.specs.declared.FillMode.{FillMode}
use Rattle.blocks.specs.declared.RowFormat.{RowFormat}
use Rattle.state.specs.declared.Fields.{Fields}
use Rattle.state.specs.declared.State.{State}
use Rattle.state.specs.State.{state_of}
use Rattle.plan.specs.Plan.{Plan, plan}
use Rattle.codes.specs.declared.CodeSettings.{CodeSettings}
use Rattle.codes.specs.Codes.{Drawing, blank}
use Rattle.cells.specs.Cells.{row_cells}
use Rattle.row.specs.declared.DrawnRow.{DrawnRow}

-- the settings that the cells of a row are drawn by
abbrev pub code_settings : Settings → CodeSettings
code_settings σ = record { linear = σ.linear; hidden = σ.hidden; flag = σ.flag }

-- what a row comes to: its lines and format, the next state's fields, and its drawing at the end
pub record Row : Type 0 where
  pub lines : ℕ
  pub format : RowFormat
  pub next : Fields
  pub drawing : Drawing

abbrev pub drawn_by : Plan → Drawing → Row
drawn_by p d = record { lines = p.lines; format = p.format; next = p.next; drawing = d }

-- "then cells as met (7, 13)"
abbrev pub from_plan : Settings → FillMode → ℕ → Plan → Reading Row
from_plan σ fill latch p = do
  d ← row_cells (code_settings σ) fill p.overlay p.segments (blank latch)
  done (drawn_by p d)

-- "Row: 1 to 5; .. 12; then cells as met (7, 13)", 5 withdrawn. Check 1, on the row buffer, is the row call's.
unfoldable pub row : Settings → State → Reading Row
row σ s = do
  p ← plan σ s.fields
  from_plan σ s.fields.fill s.latch p

-- Cell bit "22 the absolute cursor, when enabled and X, Y are this cell"
unfoldable pub with_cursor : Settings → Fields → List ℕ → List ℕ
with_cursor σ f cs =
    when σ.cursor && eqb f.cursor.y f.row
    then set cs f.cursor.x (bit_or (get_or cs f.cursor.x 0) (2 ^ 22))
    else cs

-- a call's answer, and what its row buffer then holds
pub record Called : Type 0 where
  pub answer : Result DrawnRow Refusal
  pub buffer : List ℕ

abbrev pub called : Result DrawnRow Refusal → List ℕ → Called
called answer buffer = record { answer = answer; buffer = buffer }

-- "A row's answer is its number, lines, row attributes, CURS, CURE, word count, cells and next state."
abbrev pub answer_of : ℕ → ℕ → RowFormat → ℕ → State → Result DrawnRow Refusal
answer_of number lines format words next =
    Ok (record { number = number; lines = lines; format = format; words = words; next = next })

abbrev pub accepted : Settings → Fields → ℕ → Row → Called
accepted σ f words r =
    called (answer_of f.row r.lines r.format words (state_of r.drawing.pen.latch r.next))
    (with_cursor σ f r.drawing.cells)

-- "State and buffer stay"
abbrev pub answered : Settings → Fields → List ℕ → Outcome Row → Called
answered σ f buffer (given n r) = accepted σ f n r
answered σ f buffer (refused x) = called (Err (refusal f.row x)) buffer

-- Refusal 1: "row buffer not 132 cells"
unfoldable pub row_call : Settings → List ℕ → State → List ℕ → Called
row_call σ m s buffer =
    when eqb (length buffer) 132
    then answered σ s.fields buffer (run m (row σ s))
    else called (Err (refusal s.fields.row (fault 1))) buffer

-- "a row reads fewer than 12,000"
abbrev pub FewWords : Result DrawnRow Refusal → Type 0
FewWords (Ok r) = r.words < 12000
FewWords (Err r) = 0 < 12000
