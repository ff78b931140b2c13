-- The words are all there and no code takes one of a list, so the segment reads as characters with the latch.
use mathlib.Core.Path.{refl, ap, sym, ◌∙◌}
use Prim.Native.Nat.{◌+◌, ◌/◌}
use native.Mathlib.Omega.{arith}
use lib.ListN.{length}
use Rattle.memory.specs.Reading.{given}
use Rattle.memory.proofs.RunLaws.{run_ends}
use Rattle.codes.specs.Answers.{so_far}
use Rattle.runs.proofs.RunLaws.{codes-run, each-plain}
use Rattle.runs.proofs.without_list.draw_without_list.Goals as goal

pub draw_characters-requires : goal.draw_characters-requires
draw_characters-requires c =
    let a = c.args in
    let pre = c.requires in
    (pre.end_in_bounds.0, pre.end_in_bounds.1, pre.end_in_bounds.2, run_ends (length a.mem.now) a.p.address ((a.count + 1) / 2) a.settings.linear pre.present_value.1)

pub returns : goal.returns
returns c =
    let a = c.args in
    let pre = c.requires in
    let drawn = c.draw_characters.ensures in
    let n = a.words + (a.count + 1) / 2 in record {
      within = (drawn.column_le_end, omega arith);
      cells_after = ap (given n) drawn.cells_after
          ∙ sym (codes-run a.mem.now a.settings a.room.source a.room.end a.words a.count a.p (so_far a.pen a.cells.now) pre.present_value.1
          ∙ each-plain n a.mem.now a.settings a.room.source a.room.end a.pen.latch _ (so_far a.pen a.cells.now) pre.present_value.0 refl);
    }
