-- Up, the hard list's first row; down, the first row of the soft top's list, once its main block is read.
use mathlib.Core.Path.{ap, sym, ◌∙◌}
use Rattle.memory.proofs.Laws.{exit}
use Rattle.scroll.specs.Answers.{lines_read}
use Rattle.scroll.proofs.ShiftLaws.{edge-up, edge-refused, edge-down}
use Rattle.scroll.proofs.edge_lines.Goals as goal

pub returns-then-is_up : goal.returns-then-is_up
returns-then-is_up c =
    let u = sym c.is_up.ensures ∙ c.if-is_up.true in
    c.first_lines.ensures ∙ ap lines_read (sym (edge-up _ _ _ _ u))

pub returns-in_err-main : goal.returns-in_err-main
returns-in_err-main c =
    let u = sym c.is_up.ensures ∙ c.if-is_up.false in
    let e = sym (rw c.in_err-main.was at c.top_block.ensures) in
    rw (exit _ c.from_residual.ensures.1) (ap lines_read (sym (edge-refused _ _ _ _ u e)))

pub returns : goal.returns
returns c =
    let u = sym c.is_up.ensures ∙ c.if-is_up.false in
    let e = sym (rw c.in_ok-main.was at c.top_block.ensures) in
    c.first_lines-2.ensures ∙ sym (edge-down _ _ _ _ u e)
