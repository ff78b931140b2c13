-- Without a window the background is drawn whole, else around the window.
use mathlib.Core.Path.{◌∙◌}
use Prim.Native.Nat.{◌+◌}
use native.Mathlib.Omega.{arith}
use Rattle.blocks.specs.RowBlock.{segments_of}
use Rattle.layout.proofs.LayoutLaws.{whole-all}
use Rattle.cells.specs.Cells.{row_cells}
use Rattle.cells.proofs.FillLaws.{to-more}
use Rattle.cells.proofs.walk_cells.Goals as goal

pub draw_run-requires : goal.draw_run-requires
draw_run-requires c =
    let a = c.args in
    let p = rw c.in-None.is at c.requires.drawable in record {
      end_in_bounds = (omega (arith, c.requires.words_bound.1), omega (arith, c.requires.words_bound.0));
      segments_bound = rw (c.blank-pen.ensures, whole-all a.settings.hidden 0 (segments_of a.settings.linear a.count a.back.now)) (omega (arith, p.narrow));
    }

pub returns-in-None : goal.returns-in-None
unfolding row_cells
returns-in-None c =
    let a = c.args in
    let r = c.draw_run in record {
      reached = to-more 132 (a.words + 131000) (a.words + 400000) r.result c.draw_run.ensures.reached (omega arith);
      cells_after = rw (c.blank-pen.ensures, whole-all a.settings.hidden 0 (segments_of a.settings.linear a.count a.back.now)) at c.draw_run.ensures.cells_after
          ∙ rw c.in-None.is;
    }
