-- The words are all there, so the segment reads as its codes examined one after the other: pairs first, then the odd one.
use mathlib.Core.Path.{sym, ◌∙◌}
use Prim.Native.Nat.{◌+◌, ◌/◌}
use native.Mathlib.Omega.{arith}
use lib.ListN.{length}
use Rattle.memory.proofs.RunLaws.{run_ends}
use Rattle.codes.specs.Answers.{so_far}
use Rattle.runs.proofs.RunLaws.{pen-begun, codes-run}
use Rattle.runs.proofs.with_list.draw_with_list.Goals as goal

pub returns : goal.returns
returns c =
    let a = c.args in
    let pre = c.requires in
    let pairs = c.examine_pairs-pairs.ensures in
    let odd = c.examine_odd-cursor.ensures in
    let σ = a.settings in
    let n = a.words + (a.count + 1) / 2 in
    let begun = pen-begun σ.linear σ.hidden a.room.source a.room.end a.pen pre.present_value.0 in
    rw c.pen_of.ensures (record {
      within = (odd.column_le_end.0, omega arith);
      cells_after = sym (codes-run a.mem.now σ a.room.source a.room.end a.words a.count a.p (so_far a.pen a.cells.now) pre.present_value.1
          ∙ rw (c.cursor_of-begun.ensures, begun) at (pairs.by_index n) ∙ odd.by_index n);
    })

pub examine_pairs-pairs-requires-clause-count_in_bounds : goal.examine_pairs-pairs-requires-clause-count_in_bounds
examine_pairs-pairs-requires-clause-count_in_bounds c =
    let a = c.args in
    (run_ends (length a.mem.now) a.p.address ((a.count + 1) / 2) a.settings.linear c.requires.present_value.1, c.requires.present_value.2)

pub examine_odd-cursor-requires-clause-count_in_bounds : goal.examine_odd-cursor-requires-clause-count_in_bounds
examine_odd-cursor-requires-clause-count_in_bounds c =
    let a = c.args in
    (run_ends (length a.mem.now) a.p.address ((a.count + 1) / 2) a.settings.linear c.requires.present_value.1, c.requires.present_value.2)
