-- The three stretches follow one another as in the definition; what a plan has checked gives the room of each.
use mathlib.Core.Path.{sym, ◌∙◌}
use Prim.Native.Nat.{◌+◌}
use native.Mathlib.Omega.{arith}
use Rattle.memory.proofs.Laws.{bind-given, bind-refused, exit}
use Rattle.blocks.specs.RowBlock.{segments_of}
use Rattle.layout.proofs.LayoutLaws.{whole-all}
use Rattle.cells.specs.Cells.{row_cells}
use Rattle.cells.proofs.FillLaws.{to-more}
use Rattle.cells.proofs.SideLaws.{around}
use Rattle.cells.proofs.draw_around.Goals as goal

pub draw_run-requires : goal.draw_run-requires
draw_run-requires c =
    let a = c.args in
    let p = c.requires in
    let k = around a.settings.hidden a.head.number a.head.first a.head.end (segments_of a.settings.linear a.head.count a.window.now) (segments_of a.settings.linear a.count a.back.now) p.drawable in
    record { end_in_bounds = (omega (arith, k.inside, k.after, p.column_value.1), omega (arith, p.column_value.2)); segments_bound = omega (arith, k.before, p.column_value.0) }

pub draw_run-requires-2-clause-segments_bound : goal.draw_run-requires-2-clause-segments_bound
draw_run-requires-2-clause-segments_bound c =
    let a = c.args in
    let k = around a.settings.hidden a.head.number a.head.first a.head.end (segments_of a.settings.linear a.head.count a.window.now) (segments_of a.settings.linear a.count a.back.now) c.requires.drawable in
    let h = c.in_ok-before.ensures.reached in rw c.with_list-begun.ensures (omega (arith, k.inside, h.0))

pub draw_run-requires-3-clause-segments_bound : goal.draw_run-requires-3-clause-segments_bound
draw_run-requires-3-clause-segments_bound c =
    let a = c.args in
    let k = around a.settings.hidden a.head.number a.head.first a.head.end (segments_of a.settings.linear a.head.count a.window.now) (segments_of a.settings.linear a.count a.back.now) c.requires.drawable in
    let i = c.in_ok-inside.ensures.reached in rw c.using_list-resumed.ensures (omega (arith, k.after, i.0))

pub returns-in_err-before : goal.returns-in_err-before
unfolding row_cells
returns-in_err-before c =
    let a = c.args in
    rw (exit _ c.from_residual.ensures.1) (record { reached = tt; cells_after = sym (bind-refused a.words a.mem.now _ _ (sym c.in_err-before.ensures.cells_after)) })

pub returns-in_err-inside : goal.returns-in_err-inside
unfolding row_cells
returns-in_err-inside c =
    let a = c.args in
    rw (exit _ c.from_residual-in_err-inside.ensures.1) (record {
      reached = tt;
      cells_after = sym (bind-given a.words a.mem.now _ _ (sym c.in_ok-before.ensures.cells_after)
          ∙ bind-refused _ a.mem.now _ _
          (sym (rw (c.with_list-begun.ensures, whole-all a.settings.hidden 0 (segments_of a.settings.linear a.head.count a.window.now)) at c.in_err-inside.ensures.cells_after)));
    })

pub returns : goal.returns
unfolding row_cells
returns c =
    let a = c.args in
    let t = c.draw_run-3 in
    let h = c.in_ok-before.ensures.reached in
    let i = c.in_ok-inside.ensures.reached in
    record {
      reached = to-more 132 (c.in_ok-inside.inside.words + 131000) (a.words + 400000) t.result t.ensures.reached (omega (arith, h.1, i.1));
      cells_after = rw c.using_list-resumed.ensures at t.ensures.cells_after
          ∙ sym (bind-given a.words a.mem.now _ _ (sym c.in_ok-before.ensures.cells_after)
          ∙ bind-given _ a.mem.now _ _
          (sym (rw (c.with_list-begun.ensures, whole-all a.settings.hidden 0 (segments_of a.settings.linear a.head.count a.window.now)) at c.in_ok-inside.ensures.cells_after)));
    }
