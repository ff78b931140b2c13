-- What a state in range tells: its window is in order, its lines are within 4095, its row below 4095 where a line is left, and a row has
-- a scan line.
use Rattle.std.proofs.Common.{Option, Some, None}
use mathlib.Core.Path.{◌≡◌}
use mathlib.Core.Bool.{true, ◌&&◌}
use Prim.Native.Nat.{◌+◌, ◌≤◌, ◌<◌}
use native.Mathlib.Omega.{arith}
use lib.Dec.{leb}
use borrow.Author.Tests.{leb-true}
use Rattle.memory.proofs.ReadBounds.{both}
use Rattle.windows.specs.declared.Window.{Window}
use Rattle.windows.specs.Window.{in_order}
use Rattle.windows.specs.Answers.{Numbered}
use Rattle.windows.proofs.WindowBounds.{Placed, in_order_lem}
use Rattle.state.specs.declared.Fields.{Fields}
use Rattle.state.specs.State.{format_in_range, pointer_in_range, window_in_range, in_range}

-- what the first two clauses of its check tell of a window in hand
ordered : (w : Window) → window_in_range (Some w) ≡ true → (in_order w.block ≡ true) × (leb w.block.number w.block.top ≡ true)
unfolding window_in_range
ordered w h = both (in_order w.block) _ (both (in_order w.block && leb w.block.number w.block.top) _ (both _ (pointer_in_range w.block.link) h).0).0

-- a window of a state in range is in order, and its number at most its first row
pub window_placed : (w : Option Window) → window_in_range w ≡ true → Placed w
unfolding window_in_range
window_placed None h = tt
window_placed (Some w) h = (in_order_lem w.block (ordered w h).0, leb-true w.block.number w.block.top (ordered w h).1)

pub placed : (f : Fields) → in_range f ≡ true → Placed f.window
unfolding in_range
placed f h =
    window_placed f.window
    (both (leb (f.row + f.left) 4095 && format_in_range f.format && pointer_in_range f.next) (window_in_range f.window) h).1

-- so it is at most its last row
at-most-last : (w : Option Window) → Placed w → Numbered w
at-most-last None h = tt
at-most-last (Some w) h = omega arith

pub numbered : (f : Fields) → in_range f ≡ true → Numbered f.window
numbered f h = at-most-last f.window (placed f h)

-- a state in range has its lines within 4095
pub lines-within : (f : Fields) → in_range f ≡ true → f.row + f.left ≤ 4095
unfolding in_range
lines-within f h =
    let formatted = (both _ (pointer_in_range f.next) (both _ (window_in_range f.window) h).0).0 in
    leb-true (f.row + f.left) 4095 (both (leb (f.row + f.left) 4095) (format_in_range f.format) formatted).0

-- a state in range with a line left is below row 4095: what refusal 5 asked before 02 withdrew it
pub row_below : (f : Fields) → in_range f ≡ true → 0 < f.left → f.row < 4095
row_below f h l = omega (arith, lines-within f h)

-- a state in range has a scan line to a row at least
pub has-line : (f : Fields) → in_range f ≡ true → 1 ≤ f.format.lines
unfolding in_range
has-line f h =
    let t = f.format in
    let ranged = (both (leb (f.row + f.left) 4095) (format_in_range t) (both _ (pointer_in_range f.next) (both _ (window_in_range f.window) h).0).0).1 in
    leb-true 1 t.lines (both (leb 1 t.lines) _ (both _ (leb t.curs 31) (both _ (leb t.cure 31) (both _ (leb t.attributes 1023) ranged).0).0).0).0
