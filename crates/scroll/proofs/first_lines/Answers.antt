-- The row block and its redefinition are read, and the format that they make has the lines.
use mathlib.Core.Path.{ap, sym}
use Rattle.memory.proofs.Laws.{exit}
use Rattle.scroll.specs.Answers.{lines_read}
use Rattle.scroll.proofs.ShiftLaws.{first-refused, first_read}
use Rattle.scroll.proofs.first_lines.Goals as goal

pub returns-in_err-format : goal.returns-in_err-format
returns-in_err-format c =
    let e = sym (rw (c.in_err-format.was, c.first_format-format.ensures) at c.background_block.ensures) in
    rw (exit _ c.from_residual.ensures.1) (ap lines_read (sym (first-refused _ _ _ e)))

pub returns : goal.returns
returns c =
    let e = sym (rw (c.in_ok-format.was, c.first_format-format.ensures) at c.background_block.ensures) in
    ap lines_read (sym (first_read _ _ _ e))
