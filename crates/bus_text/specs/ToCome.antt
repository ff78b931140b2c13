-- What of a text is still to come, and what a call for its next lines gives. No rules of their own.
use Rattle.std.specs.Prelude.{ℕ, ◌+◌, List, [], Option}
use Rattle.bus.specs.declared.BusRow.{BusRow}
use Rattle.bus.specs.declared.Totals.{Totals}
use Rattle.bus.specs.declared.Reported.{Reported}
use Rattle.frame.specs.declared.Progress.{Progress}
use Rattle.frame.specs.Step.{in_bound}
use Rattle.frame.specs.Frame.{rest}
use Rattle.lines.specs.Lines.{refusal_line, script_line}
use Rattle.lines.specs.declared.Piece.{Piece}
use Rattle.lines.specs.Pieces as Pieces
use Rattle.bus_text.specs.declared.Text.{Text}
use Rattle.bus_text.specs.declared.Text.TheVariants.{Rows, Refused, NoScript, Ended}
use Rattle.bus_text.specs.declared.Reporting.{Reporting}
use Rattle.bus_text.specs.FrameReport.{one_screen, bus_rows, by_answer, rows_text}

-- the text of a frame in progress
abbrev pub from_row : List ℕ → Reporting → List ℕ
from_row m p =
    rows_text (rest p.settings m (in_bound p.progress)).refusal p.totals
    (bus_rows p.burst one_screen p.before (rest p.settings m (in_bound p.progress)).rows)

unfoldable pub to_come : List ℕ → Text → List ℕ
to_come m (Rows p) = from_row m p
to_come m (Refused r) = refusal_line r
to_come m (NoScript n) = script_line n
to_come m Ended = []

-- a bound on the calls that it takes to the text's end
abbrev pub calls : Text → ℕ
calls (Rows p) = p.progress.state.fields.left + 1
calls (Refused r) = 1
calls (NoScript n) = 1
calls Ended = 0

-- a call gives the next lines of a whole text, or says that it is at its end; fewer calls are left than a bound
abbrev pub Gives : (memory whole : List ℕ) (bound : ℕ) → Option (Piece Text) → (buffer : List ℕ) → Type 0
Gives m = Pieces.Gives (to_come m) calls

abbrev pub Next : (memory : List ℕ) → Text → Option (Piece Text) → (buffer : List ℕ) → Type 0
Next m = Pieces.Next (to_come m) calls

-- the report of a frame in progress after a row
abbrev pub advanced : Reporting → Progress → Totals → Reporting
advanced p q t = record { settings = p.settings; burst = p.burst; before = 0; totals = t; progress = q }

-- the text from a row that is handed in, whatever memory the rows after it are drawn from
abbrev pub RowNext : Reporting → Progress → BusRow → Reported → Option (Piece Text) → List ℕ → Type 0
RowNext p q h r x buffer = (m : List ℕ) → Gives m (by_answer h (from_row m (advanced p q r.totals)) r.answer) (calls (Rows p)) x buffer
