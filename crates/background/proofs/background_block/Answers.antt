-- The block and its redefinition are read one after the other, as the rule says; 83 words at most, so the sum fits.
use mathlib.Core.Path.{sym}
use native.Mathlib.Omega.{arith}
use Rattle.memory.proofs.Laws.{exit}
use Rattle.background.proofs.BackgroundLaws.{block_refused, format-refused, block_read, block_words}
use Rattle.background.proofs.background_block.Goals as goal

pub overflow_add-block : goal.overflow_add-block
overflow_add-block c =
    let t = sym (rw c.in-Ok.is at c.redefinition-read.ensures) in
    let b = sym (rw c.in_ok-b.was at c.row_block.ensures) in
    omega (arith, block_words _ _ _ _ b t (λ i. (c.type_inv.mem i).fits))

pub returns : goal.returns
returns c =
    let t = sym (rw c.in-Ok.is at c.redefinition-read.ensures) in
    let b = sym (rw c.in_ok-b.was at c.row_block.ensures) in
    sym (block_read _ _ _ _ b t)

pub returns-in-Err : goal.returns-in-Err
returns-in-Err c =
    let b = sym (rw c.in_ok-b.was at c.row_block.ensures) in
    sym (format-refused _ _ _ _ b (sym (rw c.in-Err.is at c.redefinition-read.ensures)))

pub returns-in_err-b : goal.returns-in_err-b
returns-in_err-b c =
    rw (exit _ c.from_residual.ensures.1) (sym (block_refused _ _ _ _ (sym (rw c.in_err-b.was at c.row_block.ensures))))
