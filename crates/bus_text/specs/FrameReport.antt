-- Document 02 §10 of a frame: the rows that it hands in, and the text of their report.
use Rattle.std.specs.Prelude.{ℕ, ◌+◌, List, [], ◌∷◌, ◌++◌, get_or, Result, Ok, Err}
use Rattle.std.proofs.Math.Option.{Option, none, some}
use Rattle.memory.specs.declared.Refusal.{Refusal}
use Rattle.settings.specs.declared.Settings.{Settings}
use Rattle.frame.specs.Step.{begin}
use Rattle.frame.specs.Frame.{FrameRow, frame}
use Rattle.bus.specs.declared.BusRow.{BusRow}
use Rattle.bus.specs.declared.Totals.{Totals}
use Rattle.bus.specs.Bus.{reported}
use Rattle.bus.specs.Bus as Bus
use Rattle.bus.specs.declared.Figures.{Figures}
use Rattle.lines.specs.Lines.{refusal_line, script_line}
use Rattle.script.specs.Script.{Outcome, drawn, refused_at, script}
use Rattle.frame.specs.declared.Progress.{Progress}
use Rattle.image.specs.Registers.{registers_of}
use Rattle.bus_text.specs.BusLines.{row_line, total_line, largest_line}

-- the screen that a program with one frame hands in: screens are counted from 0, as rows are
abbrev pub one_screen : ℕ
one_screen = 0

-- a row of a frame; `before` are the words that go with it and are not its own
abbrev pub bus_row : ℕ → ℕ → ℕ → FrameRow → BusRow
bus_row burst screen before r = record { burst = burst; words = before + r.answer.words; screen = screen; row = r.answer.number }

-- "A start's words go with row 0."
unfoldable pub bus_rows : ℕ → ℕ → ℕ → List FrameRow → List BusRow
bus_rows burst screen before [] = []
bus_rows burst screen before (r ∷ rs) = bus_row burst screen before r ∷ bus_rows burst screen 0 rs

-- the words of a start
abbrev pub start_words : Result Progress Refusal → ℕ
start_words (Ok p) = p.words
start_words (Err r) = 0

-- the rows of a frame, with its own figures
abbrev pub frame_bus : ℕ → ℕ → ℕ → Settings → List ℕ → List BusRow
frame_bus burst screen latch σ m = bus_rows burst screen (start_words (begin latch σ m)) (frame latch σ m).rows

-- the text of rows from totals on: a line for each row; at the end the totals and the largest, or the refusal that ended the frame
abbrev pub last_lines : Option Refusal → Totals → List ℕ
last_lines none t = total_line t ++ largest_line t
last_lines (some r) t = refusal_line r

-- a row's line and the text after it; a refusal of the report ends the text
abbrev pub by_answer : BusRow → List ℕ → Result Figures Refusal → List ℕ
by_answer h more (Ok f) = row_line h f ++ more
by_answer h more (Err r) = refusal_line r

unfoldable pub rows_text : Option Refusal → Totals → List BusRow → List ℕ
rows_text end t [] = last_lines end t
rows_text end t (h ∷ hs) = by_answer h (rows_text end (reported t h).totals hs) (reported t h).answer

-- the text of a frame, from latch 0
unfoldable pub frame_text : ℕ → Settings → List ℕ → List ℕ
frame_text burst σ m = rows_text (frame 0 σ m).refusal Bus.none (frame_bus burst one_screen 0 σ m)

-- a script that draws reports its frame; one that is refused prints its line
abbrev pub outcome_text : (burst : ℕ) → Outcome → List ℕ
outcome_text burst (drawn σ m) = frame_text burst σ m
outcome_text burst (refused_at n) = script_line n

-- 003's summary: 10 DMA burst
abbrev pub burst_of : (registers : List ℕ) → ℕ
burst_of rs = get_or rs 0x10 0

-- the text of a script's bytes
unfoldable pub output : List ℕ → List ℕ
output bytes = outcome_text (burst_of (registers_of bytes)) (script bytes)
