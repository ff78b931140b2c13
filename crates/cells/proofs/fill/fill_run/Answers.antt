-- The cells up to the column have the value that the definition gives them.
use mathlib.Core.Path.{refl}
use native.Mathlib.Omega.{arith}
use Rattle.cells.proofs.FillLaws.{filled-run}
use Rattle.cells.proofs.fill.fill_run.Goals as goal

pub returns : goal.returns
returns c =
    let a = c.args in
    rw c.moved_to.ensures
    (record { column_value = refl; cells_after = filled-run a.fill a.end a.pen a.cells.now _ (omega arith) (rw c.cell-value.ensures at c.fill_cells.ensures) })
