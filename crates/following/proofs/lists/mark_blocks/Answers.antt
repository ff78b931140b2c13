-- The due window is marked and then read; the row's blocks follow.
use mathlib.Core.Path.{sym}
use Rattle.memory.proofs.Laws.{exit}
use Rattle.state.proofs.StateLaws.{numbered}
use Rattle.marking.proofs.MarkLaws.{trails-so, trails-on}
use Rattle.following.proofs.ListLaws.{due-faulted, due-refused, due-given}
use Rattle.following.proofs.lists.mark_blocks.Goals as goal

pub due_window-requires : goal.due_window-requires
due_window-requires c = numbered c.args.fields c.requires

pub returns-in_err-mark_due : goal.returns-in_err-mark_due
returns-in_err-mark_due c =
    rw (exit _ c.from_residual.ensures.1) (trails-so (rw c.in_err-mark_due.was at c.mark_due.ensures) (due-faulted _ _ _ _ _))

pub returns-in_default : goal.returns-in_default
returns-in_default c =
    trails-so (rw c.in_ok-mark_due.was at c.mark_due.ensures)
    (λ e. due-refused _ _ _ _ _ e (sym (rw (c.in_default.is, c.mark_due.ensures.kept.mem) at c.due_window.ensures)))

pub returns : goal.returns
returns c =
    trails-on (rw c.in_ok-mark_due.was at c.mark_due.ensures) c.mark_background.ensures
    (λ e. due-given _ _ _ _ _ e (sym (rw (c.in-Ok.is, c.mark_due.ensures.kept.mem) at c.due_window.ensures)))
