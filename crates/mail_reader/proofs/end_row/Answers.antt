-- The tests are the definition's; the answer's offset is counted from the text's start.
use native.Mathlib.Omega.{arith}
use borrow.Author.Tests.{ne_eqb}
use Rattle.mail.specs.Mail.{row_end}
use Rattle.mail_reader.proofs.CommonLaws.{common-left}
use Rattle.mail_reader.proofs.end_row.Goals as goal

pub overflow_add-result-else-end-text : goal.overflow_add-result-else-end-text
overflow_add-result-else-end-text c =
    let l = common-left row_end c.args.text.now in
    omega arith

pub returns-else-end-text : goal.returns-else-end-text
returns-else-end-text c = λ cells h.
    let l = common-left row_end c.args.text.now in
    (rw (ne_eqb _ 0 c.if-count-eq0.false, ← c.common-end.ensures, c.if-end-text.false, c.max.ensures), omega arith)
