-- A segment that is not chosen leaves the drawing as it is.
use mathlib.Core.Path.{sym}
use native.Mathlib.Omega.{arith}
use Rattle.memory.proofs.Laws.{run-done}
use Rattle.cells.proofs.draw_chosen.Goals as goal

pub returns-else-chosen : goal.returns-else-chosen
returns-else-chosen c = rw c.if-chosen.false (record { reached = (omega arith, omega arith); cells_after = sym (run-done _ _ _) })
