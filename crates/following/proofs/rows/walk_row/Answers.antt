-- Where the plan's words are marked the plan gives what its walk does; its cells follow.
use mathlib.Core.Path.{sym}
use Rattle.memory.proofs.Laws.{exit}
use Rattle.following.proofs.RowLaws.{row-faulted, row-refused, row-planned}
use Rattle.following.proofs.rows.walk_row.Goals as goal

pub returns-in_err-mark_state-clause-walked : goal.returns-in_err-mark_state-clause-walked
returns-in_err-mark_state-clause-walked c =
    rw (exit _ c.from_residual.ensures.1) (row-faulted _ _ _ _ (sym (rw c.in_err-mark_state.was at c.mark_state.ensures.marked)))

pub returns-in_err-p-clause-walked : goal.returns-in_err-p-clause-walked
returns-in_err-p-clause-walked c =
    let s = c.mark_state.ensures in
    rw (exit _ c.from_residual-in_err-p.ensures.1)
    (row-refused _ _ _ _ (sym (rw c.in_ok-mark_state.was at s.marked)) (sym (rw (c.in_err-p.was, s.kept.mem) at c.plan_row.ensures.planned)))

pub returns-clause-walked : goal.returns-clause-walked
returns-clause-walked c =
    let s = c.mark_state.ensures in
    row-planned _ _ _ _ (sym (rw c.in_ok-mark_state.was at s.marked)) (sym (rw (c.in_ok-p.was, s.kept.mem) at c.plan_row.ensures.planned))
    (rw s.kept.mem at c.walk_planned.ensures.walked)
