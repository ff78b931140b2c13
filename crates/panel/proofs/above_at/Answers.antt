-- The code's test is the definition's.
use borrow.Author.Tests.{le-leb, lt-leb}
use Rattle.panel.specs.Line.{above_at}
use Rattle.panel.proofs.above_at.Goals as goal

pub returns-then-d-end : goal.returns-then-d-end
unfolding above_at
returns-then-d-end c = rw (le-leb _ _ c.if-d-end.true, c.saturating_sub.ensures)

pub returns : goal.returns
unfolding above_at
returns c = rw (lt-leb _ _ c.if-d-end.false)
