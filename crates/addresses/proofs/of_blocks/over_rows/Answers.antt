-- Only a row with a window has one.
use Rattle.addresses.specs.Addresses.{over_rows}
use Rattle.addresses.proofs.of_blocks.over_rows.Goals as goal

pub returns-in-None : goal.returns-in-None
unfolding over_rows
returns-in-None c = λ ws. rw c.in-None.is

pub returns-in-Some : goal.returns-in-Some
unfolding over_rows
returns-in-Some c = λ ws. rw c.in-Some.is c.rows_of.ensures
