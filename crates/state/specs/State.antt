-- Document 01, "Blocks": the state, and refusal 3, a state out of range.
use Rattle.std.specs.Prelude.{ℕ, ◌+◌, Bool, true, ◌&&◌, ◌||◌, not, leb, eqb, Option, Some, None}
use Rattle.memory.specs.declared.Pointer.{Pointer}
use Rattle.memory.specs.Address.{null, is_address}
use Rattle.blocks.specs.declared.RowFormat.{RowFormat}
use Rattle.windows.specs.Window.{in_order}
use Rattle.windows.specs.declared.Window.{Window}
use Rattle.state.specs.declared.Fields.{Fields}
use Rattle.state.specs.declared.State.{State}

-- "The state holds the row number, lines left, latch, cursor, fill, scan lines, row attributes, CURS, CURE, next row block and
-- the window in hand". The fields other than the latch stand apart: "A row's effect doesn't depend on the state's latch".
abbrev pub state_of : ℕ → Fields → State
state_of latch f = record { latch = latch; fields = f }

-- "scan lines not 1..32, CURS or CURE > 31, row attributes > 1023"
abbrev pub format_in_range : RowFormat → Bool
format_in_range t = leb 1 t.lines && leb t.lines 32 && leb t.curs 31 && leb t.cure 31 && leb t.attributes 1023

-- "an address odd or above 24 bits"; and 02, of where the state's pointers begin, "0 for a null one": "3 also covers such an address that
-- is odd, above 24 bits or not that 0"
abbrev pub pointer_in_range : Pointer → Bool
pointer_in_range p = is_address p.address && is_address p.from && (not (null p) || eqb p.from 0)

-- "window rows or columns out of order or range"; "a number above its window's first row, as rows rise" (02)
unfoldable pub window_in_range : Option Window → Bool
window_in_range None = true
window_in_range (Some w) =
    in_order w.block && leb w.block.number w.block.top && pointer_in_range w.rows && pointer_in_range w.block.link

-- Refusal 3: "state out of range: row + lines left > 4095, .."
unfoldable pub in_range : Fields → Bool
in_range f =
    leb (f.row + f.left) 4095 && format_in_range f.format && pointer_in_range f.next && window_in_range f.window
