-- The test is the rule's, and the sums are small.
use borrow.Author.Tests.{le-leb, lt-leb}
use Rattle.scroll.specs.Scroll.{moved}
use Rattle.scroll.proofs.moved.Goals as goal

pub returns-then-r-g : goal.returns-then-r-g
unfolding moved
returns-then-r-g c = rw (le-leb _ _ c.if-r-g.true)

pub returns-else-r-g : goal.returns-else-r-g
unfolding moved
returns-else-r-g c = rw (lt-leb _ _ c.if-r-g.false)
