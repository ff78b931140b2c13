-- As many cells of the part as the index have the value.
use Rattle.std.proofs.Common.{◌≡◌, take, replicate}
use Rattle.cells.proofs.fill.fill_cells.Given as goal

abbrev pub invariant-loop-cell : goal.invariant-loop-cell
invariant-loop-cell l = take l.cell-index l.cell-items ≡ replicate l.cell-index l.v
