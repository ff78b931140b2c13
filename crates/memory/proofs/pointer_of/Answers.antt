-- Each way makes the address of its mode; where the pointer begins is the helper's.
use Rattle.memory.specs.Address.{pointer}
use Rattle.memory.proofs.pointer_of.Goals as goal

-- Each way makes the address of its mode; where the pointer begins is the helper's.
pub returns-then-linear : goal.returns-then-linear
unfolding pointer
returns-then-linear c = rw (c.if-linear.true, c.pointer_to.ensures)

pub returns-else-linear : goal.returns-else-linear
unfolding pointer
returns-else-linear c = rw (c.if-linear.false, c.pointer_to-else-linear.ensures)
