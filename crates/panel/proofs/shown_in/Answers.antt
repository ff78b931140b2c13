-- The code goes by the definition's cases: no row that stands still, its window there, another column.
use mathlib.Core.Path.{◌≡◌, sym, ◌∙◌}
use mathlib.Core.Bool.{true, false}
use Rattle.panel.specs.Shown.{layer, in_columns, shown_cell}
use Rattle.panel.proofs.CellLaws.{stands}
use Rattle.panel.proofs.shown_in.Goals as goal

pub returns-then-is_in : goal.returns-then-is_in
unfolding shown_cell
returns-then-is_in c =
    let a = c.args in
    let s = layer a.still.now a.still_columns in
    let b = layer a.gliding.now a.gliding_columns in
    let inside : in_columns a.still_columns a.x ≡ true = sym c.is_in.ensures ∙ c.if-is_in.true in
    rw (stands s b a.behind.now a.still.now a.x c.if-still-eq0.false, inside) c.cell_in-cell.ensures

pub returns : goal.returns
unfolding shown_cell
returns c =
    let a = c.args in
    let s = layer a.still.now a.still_columns in
    let b = layer a.gliding.now a.gliding_columns in
    let outside : in_columns a.still_columns a.x ≡ false = sym c.is_in.ensures ∙ c.if-is_in.false in
    rw (stands s b a.behind.now a.still.now a.x c.if-still-eq0.false, outside, ← c.background_cell.ensures, ← c.cell_in-cell.ensures)
    c.with_cursor_of.ensures
