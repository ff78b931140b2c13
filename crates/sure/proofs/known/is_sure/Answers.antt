-- Without a window and with one, the tests are the definition's.
use mathlib.Core.Path.{refl}
use Rattle.sure.specs.Sure.{sure_row}
use Rattle.sure.proofs.known.is_sure.Goals as goal

pub returns-in-None : goal.returns-in-None
unfolding sure_row
returns-in-None c = rw (c.in-None.is, c.are_sure.ensures, c.fills_row.ensures)

pub returns-in-Some : goal.returns-in-Some
unfolding sure_row
returns-in-Some c = rw (c.in-Some.is, c.are_sure-in-Some.ensures, c.are_sure-in-Some-2.ensures) refl
