-- The code's test is the rule's: a hidden segment has its own length.
use Rattle.layout.specs.Layout.{width}
use Rattle.layout.proofs.width.Goals as goal

-- The code's test is the rule's: a hidden segment has its own length.
pub returns-then-hidden-g : goal.returns-then-hidden-g
unfolding width
returns-then-hidden-g c = rw c.if-hidden-g.true

pub returns-else-hidden-g : goal.returns-else-hidden-g
unfolding width
returns-else-hidden-g c = rw c.if-hidden-g.false
