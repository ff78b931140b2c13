-- What the plan has checked lets the cells be drawn; the state after the row, or its refusal, is that of the whole row.
use Rattle.memory.proofs.Laws.{exit}
use Rattle.std.proofs.Common.{Ok}
use mathlib.Core.Path.{ap, ◌∙◌}
use Rattle.state.specs.State.{state_of}
use Rattle.cells.specs.Answers.{Finished}
use Rattle.cells.proofs.FinishLaws.{finish-refused, finish-given}
use Rattle.row.proofs.RowLaws.{plan-drawable, planned-refused, planned-drawn}
use Rattle.blame.specs.Answers.{walked}
use Rattle.plan.proofs.PlanPassing.{plan-passing}
use borrow.Author.Rules.{rules}
use Rattle.blame.proofs.walk_cells.Goals as goal

pub code_settings-code-requires : goal.code_settings-code-requires
code_settings-code-requires c = (plan-passing _ _ _ c.requires).straight

pub draw_cells-requires : goal.draw_cells-requires
draw_cells-requires c =
    let a = c.args in
    let k = plan-drawable a.settings a.mem.now (λ i. (c.type_inv.mem i).fits) a.state.fields c.requires in
    rw c.code_settings-code.ensures (record { drawable = k.0; words_bound = (k.1, search rules) })

pub returns-in_err-drawn : goal.returns-in_err-drawn
returns-in_err-drawn c =
    let a = c.args in
    rw (exit _ c.from_residual.ensures.1) (ap walked
    (planned-refused a.settings a.mem.now a.state c.requires
    (finish-refused _ (rw (c.in_err-drawn.was, c.code_settings-code.ensures) at c.draw_cells.ensures))))

pub returns : goal.returns
returns c =
    let a = c.args in
    let g = finish-given _ (rw (c.in_ok-drawn.was, c.code_settings-code.ensures) at c.draw_cells.ensures) in
    ap (λ (f : Finished). Ok (state_of f.latch a.p.next)) g.same
    ∙ ap walked (planned-drawn a.settings a.mem.now a.state c.requires g.is)
