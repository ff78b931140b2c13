-- The row call on the last state, given one line, has the answer.
use Rattle.memory.proofs.Laws.{exit}
use Rattle.beside.proofs.BesideLaws.{below}
use Rattle.beside.proofs.row_below.Goals as goal

pub returns-in_err-row : goal.returns-in_err-row
returns-in_err-row c =
    let e = rw (c.in_err-row.was, c.with_one_line-fields.ensures) at c.row.ensures.buffer_after in
    rw (exit _ c.from_residual.ensures.1) (below _ _ _ _ e)

pub returns : goal.returns
returns c =
    let e = rw (c.in_ok-row.was, c.with_one_line-fields.ensures) at c.row.ensures.buffer_after in
    rw c.tell.ensures (below _ _ _ _ e)
