-- A window in hand is on the row where the row's number is from its first to its last.
use Rattle.picture.specs.Picture.{columns_of}
use Rattle.finding.proofs.columns_of.Goals as goal

pub returns-in-None : goal.returns-in-None
unfolding columns_of
returns-in-None c = rw c.in-None.is c.no_columns.ensures

pub returns-then-block-number : goal.returns-then-block-number
unfolding columns_of
returns-then-block-number c = rw (c.in-Some.is, c.if-block-number.true)

pub returns-else-block-number : goal.returns-else-block-number
unfolding columns_of
returns-else-block-number c = rw (c.in-Some.is, c.if-block-number.false) c.no_columns-else-block-number.ensures
