-- The three stretches follow one another as in the definition; what a plan has checked gives the room of each. No fill run takes a word.
use mathlib.Core.Path.{◌∙◌}
use native.Mathlib.Omega.{arith}
use Rattle.blocks.specs.RowBlock.{segments_of}
use Rattle.layout.proofs.LayoutLaws.{whole-all}
use Rattle.cells.specs.Cells.{row_cells}
use Rattle.cells.proofs.SideLaws.{around}
use Rattle.noting.proofs.NotingLaws.{noting-bind}
use Rattle.sure.proofs.WalkLaws.{not-both, sure-over}
use Rattle.sure.proofs.draw_around.Goals as goal

pub draw_stretch-before-requires : goal.draw_stretch-before-requires
draw_stretch-before-requires c =
    let a = c.args in
    let p = c.requires in
    let ws = segments_of a.settings.linear a.head.count a.window.now in
    let gs = segments_of a.settings.linear a.count a.back.now in
    let k = around a.settings.hidden a.head.number a.head.first a.head.end ws gs p.drawable in
    let s = sure-over a.settings.hidden a.fill.flag a.mem.now gs a.head.number a.head.first a.head.end ws p.back_value in
    record {
      end_in_bounds = (omega (arith, k.inside, k.after, p.column_value.1), omega (arith, p.column_value.2), p.column_value.3);
      segments_bound = omega (arith, k.before, p.column_value.0);
      segments_value = s.1;
      segments_value_2 = λ e. not-both s.0 e;
    }

pub draw_stretch-inside-requires : goal.draw_stretch-inside-requires
draw_stretch-inside-requires c =
    let a = c.args in
    let p = c.requires in
    let ws = segments_of a.settings.linear a.head.count a.window.now in
    let gs = segments_of a.settings.linear a.count a.back.now in
    let k = around a.settings.hidden a.head.number a.head.first a.head.end ws gs p.drawable in
    let s = sure-over a.settings.hidden a.fill.flag a.mem.now gs a.head.number a.head.first a.head.end ws p.back_value in
    let r = c.draw_stretch-before in
    record {
      end_in_bounds = (omega (arith, k.after, p.column_value.1, r.auto.cells), omega (arith, r.ensures.column_value.1, p.column_value.2), p.column_value.3);
      segments_bound = rw c.with_list-begun.ensures (omega (arith, k.inside, r.ensures.column_value.0));
      segments_value = s.2;
      segments_value_2 = λ e. not-both s.0 e;
    }

pub draw_stretch-requires : goal.draw_stretch-requires
draw_stretch-requires c =
    let a = c.args in
    let p = c.requires in
    let ws = segments_of a.settings.linear a.head.count a.window.now in
    let gs = segments_of a.settings.linear a.count a.back.now in
    let k = around a.settings.hidden a.head.number a.head.first a.head.end ws gs p.drawable in
    let s = sure-over a.settings.hidden a.fill.flag a.mem.now gs a.head.number a.head.first a.head.end ws p.back_value in
    let r = c.draw_stretch-before in
    let t = c.draw_stretch-inside in
    record {
      end_in_bounds = (
        omega (arith, p.column_value.1, r.auto.cells, t.auto.cells),
        omega (arith, r.ensures.column_value.1, t.ensures.column_value.1, p.column_value.2),
        p.column_value.3,
      );
      segments_bound = rw c.using_list-resumed.ensures (omega (arith, k.after, t.ensures.column_value.0));
      segments_value = s.1;
      segments_value_2 = λ e. not-both s.0 e;
    }

pub returns : goal.returns
unfolding row_cells
returns c =
    let begun = c.with_list-begun.ensures in
    let a = c.args in
    let whole = whole-all a.settings.hidden 0 (segments_of a.settings.linear a.head.count a.window.now) in record {
      column_value_2 = (c.draw_stretch.ensures.column_value.0, omega (arith, c.draw_stretch-before.ensures.column_value.1, c.draw_stretch-inside.ensures.column_value.1, c.draw_stretch.ensures.column_value.1));
      cells_value = noting-bind a.words a.mem.now a.list.now _ _ c.draw_stretch-before.ensures.cells_value
          ∙ noting-bind _ a.mem.now _ _ _ (rw (begun, whole) at c.draw_stretch-inside.ensures.cells_value)
          ∙ rw c.using_list-resumed.ensures at c.draw_stretch.ensures.cells_value;
    }
