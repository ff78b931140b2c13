-- Document 01, "The draw program": the text of a frame, and of a script's bytes: the "Whole output".
use Rattle.std.specs.Prelude.{ℕ, List, ◌++◌}
use Rattle.std.proofs.Math.Option.{Option}
use Rattle.memory.specs.declared.Refusal.{Refusal}
use Rattle.settings.specs.declared.Settings.{Settings}
use Rattle.frame.specs.Frame.{FrameRow, Frame}
use Rattle.lines.specs.Lines.{row_line, cell_line, shown_cells, end_line}
use Rattle.script.specs.Script.{Outcome, script}
use Rattle.text.specs.Form.{Form}
use Rattle.text.specs.Form as Form

-- a row prints its row line, then a line of "the shown columns' cells"
abbrev pub row_text : Settings → FrameRow → List ℕ
row_text σ r = row_line r.answer ++ cell_line (shown_cells σ r.cells)

-- the rows, then the end line
abbrev pub drawing : Form
drawing = record { row = row_text; end = end_line }

abbrev pub rows_text : Settings → List FrameRow → List ℕ
rows_text = Form.rows_text drawing

abbrev pub last_line : Option Refusal → ℕ → ℕ → List ℕ
last_line = Form.last_line drawing

abbrev pub frame_text : Settings → Frame → List ℕ
frame_text = Form.frame_text drawing

abbrev pub outcome_text : Outcome → List ℕ
outcome_text = Form.outcome_text drawing

-- the text of a script's bytes
unfoldable pub output : List ℕ → List ℕ
output bytes = outcome_text (script bytes)
