-- Document 01, "What a refused call says" and "A row, left to right": the window on a row.
use Rattle.std.specs.Prelude.{ℕ, ◌+◌, ◌-◌, ◌&&◌, leb, Option, Some, None}
use Rattle.memory.specs.Word.{when◌then◌else◌}
use Rattle.memory.specs.declared.Pointer.{Pointer}
use Rattle.memory.specs.Reading.{Reading, done, ◌>>=◌, ◌>>◌, check, check_of}
use Rattle.settings.specs.declared.Settings.{Settings}
use Rattle.windows.specs.declared.Window.{Window}
use Rattle.blocks.specs.RowBlock.{window_row_at}
use Rattle.layout.specs.Layout.{total, all_fit, Overlay, none, over}

-- the window on a row, and the window in hand after it
pub record Overlaid : Type 0 where
  pub overlay : Overlay
  pub window : Option Window

-- the window with its next row block
abbrev pub with_rows : Pointer → Window → Window
with_rows rows w = record { block = w.block; rows = rows }

-- "window row block (7), 9, 11". Refusal 9: "V > L, code pointer not null"; 11: "window widths sum above the window"
unfoldable pub window_row : Settings → Window → Reading Overlaid
window_row σ w = do
  b ← window_row_at σ.linear w.rows
  check_of 9 w.rows (all_fit b.segments)
  check 11 (leb (total σ.hidden b.segments) (w.block.right + 1 - w.block.left))
  done (record {
    overlay = over w.block.number w.block.left (w.block.right + 1) b.segments;
    window = Some (with_rows b.link w);
  })

-- "On its rows a window replaces its columns."
unfoldable pub overlaid : Settings → ℕ → Option Window → Reading Overlaid
overlaid σ row None = done (record { overlay = none; window = None })
overlaid σ row (Some w) =
    when leb w.block.top row && leb row w.block.bottom
    then window_row σ w
    else done (record { overlay = none; window = Some w })
