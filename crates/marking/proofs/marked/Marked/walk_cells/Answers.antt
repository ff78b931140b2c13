-- Without a window the background is walked whole, else around the window.
use Rattle.layout.proofs.LayoutLaws.{whole-all}
use Rattle.codes.specs.Attribute.{Background}
use Rattle.cells.specs.Cells.{row_cells}
use Rattle.marking.specs.Answers.{segments_in}
use Rattle.marking.proofs.marked.Marked.walk_cells.Goals as goal

pub returns-in-None-clause-follows : goal.returns-in-None-clause-follows
unfolding row_cells
returns-in-None-clause-follows c = λ cs.
    let a = c.args in
    rw c.in-None.is
    (rw (c.blank-pen.ensures, whole-all a.settings.codes.hidden 0 (segments_in a.settings.codes.linear a.back)) at (c.walk_run.ensures.follows Background cs))
