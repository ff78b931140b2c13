-- The answer decides: a counted row has its line and the report goes on from there, a refusal has its line alone.
use mathlib.Core.Path.{refl}
use native.Mathlib.Omega.{arith}
use Rattle.lines.proofs.PieceLaws.{with-piece, last-piece}
use Rattle.bus_text.specs.ToCome.{to_come}
use Rattle.bus_text.proofs.write_row.Goals as goal

pub returns-in-Ok : goal.returns-in-Ok
unfolding to_come
returns-in-Ok c = λ m. rw c.in-Ok.is (with-piece c.row_line.ensures refl (omega (arith, c.requires)))

pub returns-in-Err : goal.returns-in-Err
unfolding to_come
returns-in-Err c = λ m. rw c.in-Err.is (last-piece c.refusal_line.ensures refl (omega arith))
