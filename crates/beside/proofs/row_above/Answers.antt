-- Check 1 comes first, then the start; its state's row has the answer, with the words of both.
use native.Mathlib.Omega.{arith}
use Rattle.memory.proofs.Laws.{exit}
use Rattle.beside.proofs.BesideLaws.{start-words, above, unfit, start-refused}
use Rattle.beside.proofs.row_above.Goals as goal

pub returns-then-buffer-ne132 : goal.returns-then-buffer-ne132
returns-then-buffer-ne132 c = rw c.refused.ensures (unfit _ _ _ _ c.if-buffer-ne132.true)

pub tell-requires : goal.tell-requires
tell-requires c =
    let w = start-words _ _ _ (λ i. (c.type_inv.mem i).fits) (rw c.in_ok-started.was at c.start.ensures) in
    (omega arith, rw c.in_ok-row.was at c.row.ensures.few_words)

pub returns-in_err-started : goal.returns-in_err-started
returns-in_err-started c =
    rw (exit _ c.from_residual.ensures.1) (start-refused _ _ _ _ c.if-buffer-ne132.false (rw c.in_err-started.was at c.start.ensures))

pub returns-in_err-row : goal.returns-in_err-row
returns-in_err-row c =
    let d = rw c.in_ok-started.was at c.start.ensures in
    rw (exit _ c.from_residual-in_err-row.ensures.1) (above _ _ _ _ c.if-buffer-ne132.false d (rw c.in_err-row.was at c.row.ensures.buffer_after))

pub returns : goal.returns
returns c =
    let d = rw c.in_ok-started.was at c.start.ensures in
    rw c.tell.ensures (above _ _ _ _ c.if-buffer-ne132.false d (rw c.in_ok-row.was at c.row.ensures.buffer_after))
