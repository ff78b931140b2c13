-- The start of a frame.
use Rattle.std.specs.Prelude.{ℕ, List, Option, Result, Ok, Err}
use Rattle.memory.specs.Reading.{Reading, done, ◌>>=◌, ◌>>◌, Outcome, given, refused, refusal, run}
use Rattle.memory.specs.declared.Refusal.{Refusal}
use Rattle.settings.specs.declared.Settings.{Settings}
use Rattle.settings.specs.Good.{check_settings}
use Rattle.settings.specs.Timing.{lines_for_rows}
use Rattle.blocks.specs.declared.MainBlock.{MainBlock}
use Rattle.blocks.specs.declared.RowFormat.{RowFormat}
use Rattle.windows.specs.Window.{first_window}
use Rattle.windows.specs.declared.Window.{Window}
use Rattle.state.specs.declared.Fields.{Fields}
use Rattle.state.specs.declared.State.{State}
use Rattle.state.specs.State.{state_of}
use Rattle.start.specs.Top.{registered, top_block}
use Rattle.start.specs.declared.Started.{Started}

-- "A frame starts with row attributes 0, M6's lines, CURS 0, CURE 31."
abbrev pub first_format : ℕ → RowFormat
first_format lines = record { lines = lines; attributes = 0; curs = 0; cure = 31 }

unfoldable pub first_fields : Settings → MainBlock → Option Window → Fields
first_fields σ m w = record {
  row = 0;
  left = lines_for_rows σ;
  cursor = m.cursor;
  fill = m.fill;
  format = first_format m.lines;
  next = m.rows;
  window = w;
}

-- "then 7 and 8 for the first window"
unfoldable pub window_start : ℕ → Settings → MainBlock → Reading State
window_start latch σ m = do
  w ← first_window σ.linear (registered σ.linear σ.tow)
  done (state_of latch (first_fields σ m w))

-- ".. 6, 7 for the main block" and 14
abbrev pub main_start : ℕ → Settings → Reading State
main_start latch σ = do
  m ← top_block σ.linear σ.top
  window_start latch σ m

-- "Start: 2, 6, 7 for the main block, then 7 and 8 for the first window."
unfoldable pub start_from : ℕ → Settings → Reading State
start_from latch σ = do
  check_settings σ
  main_start latch σ

-- "a refused start gives no state"; "the row is 0 at the start"
abbrev pub started : Outcome State → Result Started Refusal
started (given n s) = Ok (record { words = n; state = s })
started (refused x) = Err (refusal 0 x)

-- 02, of the latch: "A frame starts with the latch that the frame before ended with, the first after reset with 0."
unfoldable pub start_call : ℕ → Settings → List ℕ → Result Started Refusal
start_call latch σ m = started (run m (start_from latch σ))
