-- The codes, up to the segment's width, then its fill run: what is sure has the words that they take.
use mathlib.Core.Path.{◌∙◌}
use native.Mathlib.Omega.{arith}
use Rattle.cells.specs.Cells.{segment}
use Rattle.noting.proofs.NotingLaws.{noting-bind}
use Rattle.sure.proofs.WalkLaws.{sure-codes, sure-words, sure-fill}
use Rattle.sure.proofs.draw_segment.Goals as goal

pub draw_codes-drawn-requires : goal.draw_codes-drawn-requires
draw_codes-drawn-requires c =
    let a = c.args in
    let p = c.requires in
    rw c.with_list-begun.ensures (record {
      end_in_bounds = (
        omega (arith, p.0, c.width.ensures),
        omega arith,
        p.1,
        p.2,
        sure-codes a.fill.flag a.mem.now a.g p.3,
      );
      g_value = sure-words a.fill.flag a.mem.now a.g p.3;
    })

pub fill_to-requires : goal.fill_to-requires
fill_to-requires c =
    let r = c.draw_codes-drawn in
    let w = c.width.ensures in
    let a = c.args in
    let p = c.requires in
    let same = rw c.with_list-begun.ensures at c.draw_codes-drawn.ensures.column_le_end.2 in record {
      end_in_bounds = (omega (arith, p.0, w, r.auto.cells), c.draw_codes-drawn.ensures.column_le_end.0, omega (arith, p.1, c.draw_codes-drawn.ensures.column_le_end.1), p.2);
      address_value = λ _. sure-fill a.fill.flag a.mem.now a.g p.3 r.result.pen.list same;
    }

pub returns : goal.returns
unfolding segment
returns c =
    let d = c.draw_codes-drawn in
    let w = c.width.ensures in
    let a = c.args in
    let r = c.fill_to in record {
      column_value = (rw w at c.fill_to.ensures.column_value.0, omega (arith, c.fill_to.ensures.column_value.1, c.draw_codes-drawn.ensures.column_le_end.1));
      cells_value = noting-bind a.words a.mem.now a.list.now _ _ (rw (c.with_list-begun.ensures, w) at c.draw_codes-drawn.ensures.cells_value)
          ∙ rw w at c.fill_to.ensures.cells_value;
    }
