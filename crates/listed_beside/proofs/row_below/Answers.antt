-- The row call with a list on the last state, given one line, has the answer.
use Rattle.memory.proofs.Laws.{exit}
use Rattle.listed_beside.proofs.ListedBesideLaws.{below}
use Rattle.listed_beside.proofs.row_below.Goals as goal

pub returns-in_err-row : goal.returns-in_err-row
returns-in_err-row c =
    rw (exit _ c.from_residual.ensures.1) (below _ _ _ _ _ (rw (c.in_err-row.was, c.with_one_line-fields.ensures) at c.row.ensures.list_after))

pub returns : goal.returns
returns c =
    rw c.tell.ensures (below _ _ _ _ _ (rw (c.in_ok-row.was, c.with_one_line-fields.ensures) at c.row.ensures.list_after))
