use Rattle.state.specs.State.{window_in_range}
use Rattle.state.proofs.window_in_range.Goals as goal

pub returns-in-None : goal.returns-in-None
unfolding window_in_range
returns-in-None c = rw c.in-None.is

pub returns-in-Some : goal.returns-in-Some
unfolding window_in_range
returns-in-Some c =
    rw (c.in-Some.is, c.in_order.ensures, c.pointer_in_range.ensures, c.pointer_in_range-in-Some.ensures)
