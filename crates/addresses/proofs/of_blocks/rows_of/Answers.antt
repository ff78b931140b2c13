-- By the window in hand, and whether the row has passed its last row.
use native.Mathlib.Omega.{arith}
use borrow.Author.Tests.{lt-ltb, le-ltb}
use Rattle.addresses.specs.Addresses.{rows_of}
use Rattle.addresses.proofs.of_blocks.rows_of.Goals as goal

pub returns-in-None : goal.returns-in-None
unfolding rows_of
returns-in-None c = rw c.in-None.is

pub returns-then-x-row : goal.returns-then-x-row
unfolding rows_of
returns-then-x-row c = rw (c.in-Some.is, lt-ltb c.in-Some.x.block.bottom c.args.row c.if-x-row.true) c.pointer_in.ensures

pub returns-else-x-row : goal.returns-else-x-row
unfolding rows_of
returns-else-x-row c = rw (c.in-Some.is, le-ltb c.in-Some.x.block.bottom c.args.row (omega arith))
