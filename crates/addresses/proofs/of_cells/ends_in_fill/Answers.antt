-- The test of the last cell's source, where there is a cell.
use borrow.Author.Tests.{lt-ltb, le-ltb}
use native.Mathlib.Omega.{arith}
use Rattle.addresses.specs.Addresses.{ends_in_fill}
use Rattle.addresses.proofs.of_cells.ends_in_fill.Goals as goal

pub returns-then-c-end : goal.returns-then-c-end
unfolding ends_in_fill
returns-then-c-end c = rw (lt-ltb c.args.c c.args.end c.if-c-end.true)

pub returns-else-c-end : goal.returns-else-c-end
unfolding ends_in_fill
returns-else-c-end c = rw (le-ltb c.args.c c.args.end (omega arith))
