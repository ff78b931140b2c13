-- What a row is drawn from, before any cell: checks 2, 17, 3 and 4, a due window, the row block and its redefinition, 9, 10, the window
-- row block, 9, 11, and 12. It asks for no latch.
use Rattle.std.specs.Prelude.{ℕ, ◌+◌, ◌-◌, min, List, ltb, Option}
use Rattle.memory.specs.declared.Pointer.{Pointer}
use Rattle.memory.specs.Reading.{Reading, done, ◌>>=◌, ◌>>◌, check}
use Rattle.settings.specs.declared.Settings.{Settings}
use Rattle.settings.specs.Good.{check_settings}
use Rattle.blocks.specs.declared.Segment.{Segment}
use Rattle.blocks.specs.declared.RowFormat.{RowFormat}
use Rattle.windows.specs.Window.{due_window}
use Rattle.windows.specs.declared.Window.{Window}
use Rattle.state.specs.declared.Fields.{Fields}
use Rattle.state.specs.State.{in_range}
use Rattle.layout.specs.Layout.{Overlay, edges_fit}
use Rattle.layout.specs.Overlay.{Overlaid, overlaid}
use Rattle.background.specs.Background.{BackgroundRow, background_row}

pub record Plan : Type 0 where
  pub lines : ℕ
  pub format : RowFormat
  pub segments : List Segment
  pub overlay : Overlay
  pub next : Fields

-- "A row takes the smaller of its scan lines and the lines left."
abbrev pub lines_taken : RowFormat → ℕ → ℕ
lines_taken format left = min format.lines left

-- the fields of the next state, whose row block is at `link`
unfoldable pub next_fields : Fields → RowFormat → Pointer → Option Window → Fields
next_fields f format link window = record {
  row = f.row + 1;
  left = f.left - lines_taken format f.left;
  cursor = f.cursor;
  fill = f.fill;
  format = format;
  next = link;
  window = window;
}

abbrev pub planned : Fields → BackgroundRow → Overlaid → Plan
planned f g o = record {
  lines = lines_taken g.format f.left;
  format = g.format;
  segments = g.block.segments;
  overlay = o.overlay;
  next = next_fields f g.format g.block.link o.window;
}

-- "a due window (7, 8); the whole row block, then its redefinition (7), 9, 10; window row block (7), 9, 11; 12". Refusal 12: "window
-- edge not on a boundary"
abbrev pub from_blocks : Settings → Fields → Reading Plan
from_blocks σ f = do
  w ← due_window σ.linear f.row f.window
  g ← background_row σ f
  o ← overlaid σ f.row w
  check 12 (edges_fit σ.hidden o.overlay g.block.segments)
  done (planned f g o)

-- "Row: 1 to 5; .." without 5, "withdrawn, its number unused" (02). Refusal 3: "state out of range"; 4: "no lines left"
abbrev pub from_state : Settings → Fields → Reading Plan
from_state σ f = do
  check 3 (in_range f)
  check 4 (ltb 0 f.left)
  from_blocks σ f

-- checks 2 and 17 come before them; check 1, on the row buffer, is the row call's
unfoldable pub plan : Settings → Fields → Reading Plan
plan σ f = do
  check_settings σ
  from_state σ f
