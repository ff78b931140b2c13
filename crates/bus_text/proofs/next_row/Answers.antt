-- Each answer of `frame::step` has its lines: a row's come before the text of the report after it, others are the last.
use mathlib.Core.Path.{refl}
use native.Mathlib.Omega.{arith}
use Rattle.memory.proofs.ReadBounds.{Words}
use Rattle.frame.specs.Step.{in_bound}
use Rattle.frame.proofs.StepLaws.{advanced}
use Rattle.bus_text.specs.ToCome.{to_come}
use Rattle.lines.proofs.PieceLaws.{last-piece}
use Rattle.bus_text.proofs.ReportLaws.{row-text, end-text, refusal-text}
use Rattle.bus_text.proofs.next_row.Goals as goal

pub handed_in-h-requires : goal.handed_in-h-requires
handed_in-h-requires c =
    let a = c.args in
    let words : Words a.mem.now = λ i. (c.type_inv.mem i).fits in
    (advanced a.p.settings a.mem.now words (in_bound a.p.progress) _ (rw c.in-Drawn.is at c.step.ensures.buffer_after)).few

pub returns-in-Drawn : goal.returns-in-Drawn
returns-in-Drawn c =
    let a = c.args in
    let words : Words a.mem.now = λ i. (c.type_inv.mem i).fits in
    let e = rw c.in-Drawn.is at c.step.ensures.buffer_after in
    rw (← row-text a.p a.mem.now words _ refl e)
    (rw (c.report_by_value.ensures, c.handed_in-h.ensures) at (c.write_row.ensures a.mem.now))

pub returns-in-Ended : goal.returns-in-Ended
unfolding to_come
returns-in-Ended c =
    let a = c.args in
    let words : Words a.mem.now = λ i. (c.type_inv.mem i).fits in
    let e = rw c.in-Ended.is at c.step.ensures.buffer_after in
    last-piece c.total_lines.ensures
    (end-text a.p a.mem.now words _ refl e) (omega arith)

pub returns-in-Refused : goal.returns-in-Refused
unfolding to_come
returns-in-Refused c =
    let a = c.args in
    let words : Words a.mem.now = λ i. (c.type_inv.mem i).fits in
    let e = rw c.in-Refused.is at c.step.ensures.buffer_after in
    last-piece c.refusal_line.ensures
    (refusal-text a.p a.mem.now words _ refl e) (omega arith)
