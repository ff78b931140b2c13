-- A segment that is not chosen leaves the drawing as it is.
use native.Mathlib.Omega.{arith}
use Rattle.noting.proofs.NotingLaws.{noting-done}
use Rattle.sure.proofs.draw_chosen.Goals as goal

pub returns-else-chosen : goal.returns-else-chosen
returns-else-chosen c = rw c.if-chosen.false (record { column_value = (omega arith, omega arith); cells_value = noting-done _ _ _ _ })
