-- The codes, up to the segment's width, then its fill run.
use mathlib.Core.Path.{sym, ◌∙◌}
use Prim.Native.Nat.{◌+◌}
use native.Mathlib.Omega.{arith}
use Rattle.memory.proofs.Laws.{bind-given, bind-refused, exit}
use Rattle.cells.specs.Cells.{segment}
use Rattle.cells.proofs.FillLaws.{to-more}
use Rattle.cells.proofs.draw_segment.Goals as goal

pub returns-in_err-drawn : goal.returns-in_err-drawn
unfolding segment
returns-in_err-drawn c =
    let a = c.args in
    rw (exit _ c.from_residual.ensures.1) (record {
      reached = tt;
      cells_after = sym (bind-refused a.words a.mem.now _ _
          (sym (rw (c.with_list-begun.ensures, c.code_count.ensures.0, c.width.ensures) at c.in_err-drawn.ensures.cells_after)));
    })

pub returns : goal.returns
unfolding segment
returns c =
    let a = c.args in
    let r = c.fill_to in
    let h = c.in_ok-drawn.ensures.within in record {
      reached = to-more _ (c.in_ok-drawn.drawn.words + 1) (a.words + 512) r.result (rw c.width.ensures at r.ensures.reached) (omega (arith, h.1, c.code_count.ensures.1));
      cells_after = rw c.width.ensures at r.ensures.cells_after
          ∙ sym (bind-given a.words a.mem.now _ _
          (sym (rw (c.with_list-begun.ensures, c.code_count.ensures.0, c.width.ensures) at c.in_ok-drawn.ensures.cells_after)));
    }
