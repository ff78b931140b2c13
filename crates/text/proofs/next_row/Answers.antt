-- Each answer of `frame::step` has its text: that of a row comes before the text of the frame in progress after it; what is written
-- of the end, and the line of a refusal, are the last.
use mathlib.Core.Path.{refl, sym, ◌∙◌}
use native.Mathlib.Omega.{arith}
use Rattle.frame.specs.Step.{in_bound}
use Rattle.text.specs.Form.{to_come}
use Rattle.lines.proofs.PieceLaws.{with-piece, last-piece}
use Rattle.text.proofs.GoodLaws.{drawn-good}
use Rattle.text.proofs.TextLaws.{row-text, end-text, refusal-text}
use Rattle.text.proofs.next_row.Goals as goal

pub put_row-requires : goal.put_row-requires
put_row-requires g c =
    let a = c.args in
    drawn-good a.settings a.mem.now (in_bound a.progress) _ (rw c.in-Drawn.is at c.step.ensures.buffer_after)

pub returns-in-Drawn : goal.returns-in-Drawn
returns-in-Drawn g c =
    let a = c.args in
    let x = c.in-Drawn.is in
    with-piece c.put_row.ensures
    (row-text g.F.FrameForm.form a.settings a.mem.now (λ i. (c.type_inv.mem i).fits) a.progress _ refl (rw x at c.step.ensures.buffer_after))
    (omega (arith, rw x at c.step.ensures.fewer_lines))

pub returns-in-Refused : goal.returns-in-Refused
unfolding to_come
returns-in-Refused g c =
    let a = c.args in
    last-piece c.refusal_line.ensures
    (refusal-text g.F.FrameForm.form a.settings a.mem.now (λ i. (c.type_inv.mem i).fits) a.progress _ refl (rw c.in-Refused.is at c.step.ensures.buffer_after))
    (omega arith)

pub returns-in_ok-count-in-Ended : goal.returns-in_ok-count-in-Ended
unfolding to_come
returns-in_ok-count-in-Ended g c =
    let a = c.args in
    last-piece c.in_ok-count-in-Ended.ensures
    (end-text g.F.FrameForm.form a.settings a.mem.now (λ i. (c.type_inv.mem i).fits) a.progress _ refl (rw c.in-Ended.is at c.step.ensures.buffer_after))
    (omega arith)

pub returns-in_err-count-in-Ended : goal.returns-in_err-count-in-Ended
returns-in_err-count-in-Ended g c =
    let a = c.args in
    rw c.from_residual.ensures
    (sym
    (end-text g.F.FrameForm.form a.settings a.mem.now (λ i. (c.type_inv.mem i).fits) a.progress _ refl (rw c.in-Ended.is at c.step.ensures.buffer_after))
    ∙ c.in_err-count-in-Ended.ensures)
