-- The whole text is what was written so far, then the text of the cells from i on after one with the marks `before`: each turn writes
-- one cell, at most 13 bytes, and the row's end is what no cells make.
use mathlib.Core.Path.{sym, ◌∙◌}
use mathlib.Core.List.{map}
use native.Mathlib.Omega.{arith}
use lib.ListN.{take, length-map}
use lib.Seq.{length-take-le}
use Rattle.mail.specs.Mail.{text_cell}
use Rattle.mail.proofs.TextLaws.{text-marks, goes_on, cells-end}
use Rattle.mail.proofs.put_row.Goals as goal

pub loop-cell-init : goal.loop-cell-init
loop-cell-init c = (omega arith, rw c.put-at.ensures.front)

pub loop-cell-preserved : goal.loop-cell-preserved
loop-cell-preserved c =
    let l = c.loop-cell in (
      omega arith,
      rw (c.marks_of-before.ensures, ← text-marks) (goes_on _ _ _ _ l.before l.cell-index c.loop-cell-test.true l.invariant.1 c.put_cell-at.ensures.1),
    )

pub returns : goal.returns
returns c =
    let l = c.loop-cell in
    let a = c.args in (
      omega (arith, length-take-le a.columns a.cells.now c.requires.1),
      c.put_end.ensures.1 ∙ sym (l.invariant.1 ∙ rw (cells-end l.before (map text_cell (take a.columns a.cells.now)) l.cell-index (simp length-map c.loop-cell-test.false))),
    )
