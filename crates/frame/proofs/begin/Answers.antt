-- The answer of `start::start`, which is the start from latch 0, made into a frame in progress or handed up as a refusal.
use mathlib.Core.Path.{ap}
use Rattle.memory.proofs.Laws.{exit}
use Rattle.start.specs.Start.{start_call}
use Rattle.frame.specs.Step.{begun, begin}
use Rattle.frame.proofs.begin.Goals as goal

pub returns-in_err-started : goal.returns-in_err-started
unfolding begin start_call
returns-in_err-started c =
    rw (exit _ c.from_residual.ensures.1) (ap begun (rw c.in_err-started.was at c.start.ensures))

pub returns : goal.returns
unfolding begin start_call
returns c = ap begun (rw c.in_ok-started.was at c.start.ensures)
