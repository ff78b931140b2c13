-- The row block is marked and then read, for its redefinition pointer; checks 9 and 10 ask for nothing.
use mathlib.Core.Path.{sym}
use Rattle.memory.proofs.Laws.{exit}
use Rattle.marking.proofs.MarkLaws.{trails-so, trails-on}
use Rattle.following.proofs.ListLaws.{background-faulted, background-refused, background-given}
use Rattle.following.proofs.lists.mark_row.Goals as goal

pub returns-in_err-mark_block : goal.returns-in_err-mark_block
returns-in_err-mark_block c =
    rw (exit _ c.from_residual.ensures.1) (trails-so (rw c.in_err-mark_block.was at c.mark_block.ensures) (background-faulted _ _ _ _ _))

pub returns-in_default : goal.returns-in_default
returns-in_default c =
    trails-so (rw c.in_ok-mark_block.was at c.mark_block.ensures)
    (λ e. background-refused _ _ _ _ _ e (sym (rw (c.in_default.is, c.mark_block.ensures.kept.mem) at c.row_block.ensures)))

pub returns : goal.returns
returns c =
    trails-on (rw c.in_ok-mark_block.was at c.mark_block.ensures) (c.mark_redefinition.ensures c.args.fields.format)
    (λ e. background-given _ _ _ _ _ e (sym (rw (c.in-Ok.is, c.mark_block.ensures.kept.mem) at c.row_block.ensures)))
