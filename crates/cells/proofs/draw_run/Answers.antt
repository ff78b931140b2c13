-- The segments of the side, then the fill run, as the definition has them.
use mathlib.Core.Path.{sym, ◌∙◌}
use Prim.Native.Nat.{◌+◌, ◌<◌}
use native.Mathlib.Omega.{arith}
use Rattle.memory.proofs.Laws.{bind-given, bind-refused, exit}
use Rattle.cells.specs.Cells.{segments_to}
use Rattle.cells.proofs.FillLaws.{to-more}
use Rattle.cells.proofs.draw_run.Goals as goal

pub returns-in_err-drawn : goal.returns-in_err-drawn
unfolding segments_to
returns-in_err-drawn c =
    let a = c.args in
    rw (exit _ c.from_residual.ensures.1) (record {
      reached = tt;
      cells_after = sym (bind-refused a.words a.mem.now _ _ (sym (rw c.anew-begun.ensures at c.in_err-drawn.ensures.cells_after)));
    })

pub returns : goal.returns
unfolding segments_to
returns c =
    let a = c.args in
    let small : a.count.number < 256 = c.well_formed.1.1.1.1.0.1.1.0.1 in
    let r = c.fill_to in
    let h = rw c.anew-begun.ensures at c.in_ok-drawn.ensures.reached in record {
      reached = to-more a.stretch.end (c.in_ok-drawn.drawn.words + 1) (a.words + 131000) r.result r.ensures.reached (omega (arith, h.1, small));
      cells_after = r.ensures.cells_after ∙ sym (bind-given a.words a.mem.now _ _ (sym (rw c.anew-begun.ensures at c.in_ok-drawn.ensures.cells_after)));
    }
