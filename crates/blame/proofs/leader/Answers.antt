-- The window's link leads to the next one where the row has passed its last row.
use borrow.Author.Tests.{lt-ltb, le-ltb}
use Rattle.blame.specs.Blame.{leader}
use Rattle.blame.proofs.leader.Goals as goal

pub returns-in-Some : goal.returns-in-Some
unfolding leader
returns-in-Some c = rw (c.in-Some.is, lt-ltb _ _ c.if-w-row.true)

pub returns-in_default : goal.returns-in_default
unfolding leader
returns-in_default c = rw (c.in-Some.is, le-ltb _ _ c.if-w-row.false)

pub returns-in_default-2 : goal.returns-in_default-2
unfolding leader
returns-in_default-2 c = rw c.in_default.is
