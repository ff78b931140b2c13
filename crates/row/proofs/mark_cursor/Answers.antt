-- The test is the rule's, with the column's bound; past the last column a mark changes nothing.
use mathlib.Core.Bool.{◌&&◌}
use lib.Dec.{ltb, eqb}
use Rattle.memory.proofs.ReadBounds.{both}
use Rattle.row.specs.Row.{with_cursor}
use Rattle.row.proofs.RowLaws.{mark-off}
use Rattle.row.proofs.mark_cursor.Goals as goal

pub returns-then-is_cursor_row-x : goal.returns-then-is_cursor_row-x
unfolding with_cursor
returns-then-is_cursor_row-x c =
    let a = c.args in
    let f = a.fields in
    let h = rw c.is_cursor_row.ensures at c.if-is_cursor_row-x.true in
    rw (both (a.settings.cursor && eqb f.cursor.y f.row) (ltb f.cursor.x 132) h).0

pub returns-else-is_cursor_row-x : goal.returns-else-is_cursor_row-x
unfolding with_cursor
returns-else-is_cursor_row-x c =
    let a = c.args in
    let f = a.fields in
    mark-off (a.settings.cursor && eqb f.cursor.y f.row) f.cursor.x _ a.cells.now
    (rw c.is_cursor_row.ensures at c.if-is_cursor_row-x.false) c.requires
