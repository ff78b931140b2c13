-- The line is what was written so far, then what the cells that are left make of it: the line's end where none are.
use Rattle.std.proofs.Common.{◌∙◌, take, arith, rules}
use Rattle.lines.proofs.TextLaws.{no_cells, first-cell, goes_on, comes-to-end}
use Rattle.lines.proofs.put_cells.Goals as goal

pub returns-in_default : goal.returns-in_default
returns-in_default c =
    let e = c.put_end.ensures in
    (e.0, e.1, e.2 ∙ no_cells _ c.args.cells.now c.in_default.ensures.cases)

pub loop-cell-preserved : goal.loop-cell-preserved
loop-cell-preserved c =
    let l = c.loop-cell in
    let p = c.put_cell-at in
    (search rules, omega arith, goes_on c.in-Some.others.now (take l.at l.out) (take p.result c.put_cell-at.new.out) _ l.cell-index c.loop-cell-test.true l.invariant.2 c.put_cell-at.ensures.1)

pub returns : goal.returns
returns c =
    let l = c.loop-cell in
    let e = c.put_end-2.ensures in
    let p = c.put_hex-at in
    let first = first-cell c.args.cells.now c.in-Some.others.now (take c.args.start c.args.out.now) (take p.result c.put_hex-at.new.out) _ (search rules) c.put_hex-at.ensures.1 in
    (e.0, e.1, e.2 ∙ comes-to-end c.in-Some.others.now (take l.at l.out) _ l.cell-index c.loop-cell-test.false (l.invariant.2 ∙ first))
