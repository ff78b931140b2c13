-- Without a window the background is drawn whole, else around the window.
use native.Mathlib.Omega.{arith}
use Rattle.blocks.specs.RowBlock.{segments_of}
use Rattle.layout.proofs.LayoutLaws.{whole-all}
use Rattle.cells.specs.Cells.{row_cells}
use Rattle.sure.proofs.WalkLaws.{sure-plain}
use Rattle.sure.proofs.draw_cells.Goals as goal

pub draw_stretch-requires : goal.draw_stretch-requires
draw_stretch-requires c =
    let a = c.args in
    let p = c.requires in
    let gs = segments_of a.settings.linear a.count a.back.now in
    let no-window = c.in-None.is in
    let d = rw no-window at p.drawable in
    let s = sure-plain a.settings.hidden a.fill.flag a.mem.now gs (rw no-window at p.back_value) in
    let blank = c.blank-pen.ensures in let whole = whole-all a.settings.hidden 0 gs in record {
      end_in_bounds = (omega (arith, p.words_bound.1), omega (arith, p.words_bound.0), p.words_bound.2);
      segments_bound = rw (blank, whole) (omega (arith, d.narrow));
      segments_value = s.0;
      segments_value_2 = rw (blank, whole) (λ e. omega (arith, s.1 e));
    }

pub returns-in-None : goal.returns-in-None
unfolding row_cells
returns-in-None c =
    let a = c.args in
    let blank = c.blank-pen.ensures in
    let whole = whole-all a.settings.hidden 0 (segments_of a.settings.linear a.count a.back.now) in record { column_value = (c.draw_stretch.ensures.column_value.0, omega (arith, c.draw_stretch.ensures.column_value.1)); latch_value = rw c.in-None.is (rw (blank, whole) at c.draw_stretch.ensures.cells_value) }
