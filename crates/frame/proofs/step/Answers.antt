-- Without a line the frame has ended; with one, the answer of `row::row` is that of the step. A row's words are fewer than 12,000 and
-- the count before them is bounded, so their sum fits; and an accepted row leaves fewer lines.
use mathlib.Core.Path.{sym}
use Rattle.memory.proofs.ReadBounds.{Words}
use Rattle.frame.specs.Step.{in_bound}
use Rattle.frame.proofs.StepLaws.{no_line, by_row, advanced}
use Rattle.frame.proofs.step.Goals as goal

pub returns-then-state-eq0 : goal.returns-then-state-eq0
returns-then-state-eq0 c =
    let a = c.args in
    record { fewer_lines = tt; buffer_after = rw c.bound_words-words.ensures.value (sym (no_line a.settings a.mem.now (in_bound a.progress) a.buffer.now c.if-state-eq0.true)) }

pub returns-in-Err : goal.returns-in-Err
returns-in-Err c =
    let a = c.args in
    let e = rw c.in-Err.is at c.row.ensures.buffer_after in
    record { fewer_lines = tt; buffer_after = by_row a.settings a.mem.now (in_bound a.progress) a.buffer.now c.if-state-eq0.false e }

pub returns-in-Ok : goal.returns-in-Ok
returns-in-Ok c =
    let a = c.args in
    let e = rw c.in-Ok.is at c.row.ensures.buffer_after in
    let is = by_row a.settings a.mem.now (in_bound a.progress) a.buffer.now c.if-state-eq0.false e in
    let words : Words a.mem.now = λ i. (c.type_inv.mem i).fits in
    rw c.bound_words-words.ensures.value
    (record { fewer_lines = (advanced a.settings a.mem.now words (in_bound a.progress) a.buffer.now is).fewer; buffer_after = is })
