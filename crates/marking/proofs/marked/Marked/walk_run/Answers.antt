-- The segments of the side, then the fill run, as the definition has them.
use Rattle.memory.proofs.Laws.{exit}
use Rattle.cells.specs.Cells.{segments_to}
use Rattle.marking.proofs.PenLaws.{then-halted, then-went}
use Rattle.marking.proofs.marked.Marked.walk_run.Goals as goal

pub returns-in_err-after-clause-follows : goal.returns-in_err-after-clause-follows
unfolding segments_to
returns-in_err-after-clause-follows c = λ source cs.
    rw (exit _ c.from_residual.ensures.1) (then-halted _ _ _ _ (rw c.in_err-after.was at (c.walk_side.ensures.follows source cs)))

pub returns-clause-follows : goal.returns-clause-follows
unfolding segments_to
returns-clause-follows c = λ source cs.
    then-went _ _ _ _ (rw c.in_ok-after.was at (c.walk_side.ensures.follows source cs)) (λ ds. rw c.walk_side.ensures.kept.mem at (c.walk_fill.ensures.follows ds))
