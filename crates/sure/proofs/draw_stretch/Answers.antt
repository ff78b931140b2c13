-- The segments of the side, then the fill run, as the definition has them; with the fill flag they leave no cell to it.
use mathlib.Core.Path.{ap, ◌∙◌}
use Prim.Native.Nat.{◌<◌}
use native.Mathlib.Omega.{arith}
use Rattle.codes.specs.declared.CodeSettings.{CodeSettings}
use Rattle.codes.specs.Answers.{so_far}
use Rattle.cells.specs.Cells.{fill_to, segments_to}
use Rattle.noting.specs.Noting.{noting}
use Rattle.noting.proofs.NotingLaws.{noting-bind}
use Rattle.sure.proofs.WalkLaws.{linear-settings}
use Rattle.sure.proofs.draw_stretch.Goals as goal

pub returns : goal.returns
unfolding segments_to
returns c =
    let d = c.draw_side-drawn in
    let begun = c.anew-begun.ensures in
    let a = c.args in
    let small : a.count.number < 256 = c.well_formed.1.1.1.0.1.1.0.1 in
    let r = c.fill_to in
    let h = rw begun at c.draw_side-drawn.ensures.column_value in record {
      column_value = (c.fill_to.ensures.column_value.0, omega (arith, c.fill_to.ensures.column_value.1, h.1, small));
      cells_value = noting-bind a.words a.mem.now a.list.now _ _ (rw begun at c.draw_side-drawn.ensures.cells_value)
          ∙ ap (λ (s : CodeSettings). noting d.result.words a.mem.now c.draw_side-drawn.new.list
          (fill_to s a.stretch.fill a.stretch.end (so_far d.result.pen c.draw_side-drawn.new.cells)))
          (linear-settings a.stretch.settings c.requires.end_in_bounds.2)
          ∙ c.fill_to.ensures.cells_value;
    }
