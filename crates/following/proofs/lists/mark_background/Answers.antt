-- The row block is marked and then read with its checks; check 12 asks for nothing.
use mathlib.Core.Path.{sym}
use Rattle.memory.proofs.Laws.{exit}
use Rattle.marking.proofs.MarkLaws.{trails-so, trails-on}
use Rattle.following.proofs.ListLaws.{then-faulted, then-refused, then-given}
use Rattle.following.proofs.lists.mark_background.Goals as goal

pub returns-in_err-mark_row : goal.returns-in_err-mark_row
returns-in_err-mark_row c =
    rw (exit _ c.from_residual.ensures.1) (trails-so (rw c.in_err-mark_row.was at c.mark_row.ensures) (then-faulted _ _ _ _ _ _))

pub returns-in_default : goal.returns-in_default
returns-in_default c =
    trails-so (rw c.in_ok-mark_row.was at c.mark_row.ensures)
    (λ e. then-refused _ _ _ _ _ _ e (sym (rw (c.in_default.is, c.mark_row.ensures.kept.mem) at c.background_row.ensures)))

pub returns : goal.returns
returns c =
    trails-on (rw c.in_ok-mark_row.was at c.mark_row.ensures) c.mark_overlay.ensures
    (λ e. then-given _ _ _ _ _ _ e (sym (rw (c.in-Ok.is, c.mark_row.ensures.kept.mem) at c.background_row.ensures)))
