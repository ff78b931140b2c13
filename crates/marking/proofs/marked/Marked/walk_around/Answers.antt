-- The three stretches follow one another as in the definition.
use Rattle.memory.proofs.Laws.{exit}
use Rattle.blocks.specs.RowBlock.{segments_of}
use Rattle.layout.proofs.LayoutLaws.{whole-all}
use Rattle.codes.specs.Attribute.{Background, Window}
use Rattle.cells.specs.Cells.{row_cells}
use Rattle.marking.proofs.MarkLaws.{kept-on}
use Rattle.marking.proofs.PenLaws.{then-halted, then-went}
use Rattle.marking.proofs.marked.Marked.walk_around.Goals as goal

pub returns-in_err-before-clause-follows : goal.returns-in_err-before-clause-follows
unfolding row_cells
returns-in_err-before-clause-follows c = λ cs.
    rw (exit _ c.from_residual.ensures.1) (then-halted _ _ _ _ (rw c.in_err-before.was at (c.walk_run.ensures.follows Background cs)))

pub returns-in_err-after-clause-follows : goal.returns-in_err-after-clause-follows
unfolding row_cells
returns-in_err-after-clause-follows c = λ cs.
    let a = c.args in
    let ws = segments_of a.settings.codes.linear a.head.count a.window.now in
    let k = c.walk_run.ensures.kept in
    rw (exit _ c.from_residual-in_err-after.ensures.1)
    (then-went _ _ _ _ (rw c.in_ok-before.was at (c.walk_run.ensures.follows Background cs))
    (λ ds. then-halted _ _ _ _ (rw (c.in_err-after.was, c.with_list-begun.ensures, whole-all a.settings.codes.hidden 0 ws, k.mem) at (c.walk_run-2.ensures.follows (Window a.head.number) ds))))

pub returns-clause-follows : goal.returns-clause-follows
unfolding row_cells
returns-clause-follows c = λ cs.
    let a = c.args in
    let ws = segments_of a.settings.codes.linear a.head.count a.window.now in
    let k = c.walk_run.ensures.kept in
    let k₂ = kept-on k c.walk_run-2.ensures.kept in
    then-went _ _ _ _ (rw c.in_ok-before.was at (c.walk_run.ensures.follows Background cs))
    (λ ds. then-went _ _ _ _ (rw (c.in_ok-after.was, c.with_list-begun.ensures, whole-all a.settings.codes.hidden 0 ws, k.mem) at (c.walk_run-2.ensures.follows (Window a.head.number) ds))
    (λ es. rw (c.using_list-resumed.ensures, k₂.mem) at (c.walk_run-3.ensures.follows Background es)))
