-- One code is left where their count is odd, and none where it is even.
use mathlib.Core.Path.{◌≡◌, ap, ◌∙◌}
use mathlib.Core.List.{List, []}
use Prim.Native.Nat.{ℕ, ◌+◌, ◌-◌, ◌*◌, ◌/◌}
use native.Mathlib.Omega.{arith}
use lib.ListN.{length}
use Rattle.memory.specs.Word.{high}
use Rattle.memory.specs.Reading.{each, run_from}
use Rattle.memory.proofs.Laws.{run-done}
use Rattle.memory.proofs.RunLaws.{run_ends}
use Rattle.codes.specs.Attribute.{invokes}
use Rattle.codes.specs.Codes.{examine}
use Rattle.codes.specs.Answers.{so_far}
use Rattle.runs.specs.Runs.{codes_in, pen_of}
use Rattle.runs.proofs.RunLaws.{one-most, codes-odd, listed-step}
use Rattle.runs.proofs.with_list.examine_odd.Goals as goal

pub examine_listed-requires : goal.examine_listed-requires
examine_listed-requires c =
    let a = c.args in
    let pre = c.requires in
    let ends = run_ends (length a.mem.now) a.list.address a.count a.settings.linear pre.count_in_bounds.1 in
    (pre.end_in_bounds.0, pre.end_in_bounds.1, pre.end_in_bounds.2, omega arith, omega arith)

pub returns-then-count-eq1 : goal.returns-then-count-eq1
unfolding each
returns-then-count-eq1 c =
    let a = c.args in
    let pre = c.requires in
    let e = c.examine_listed in
    let code = c.high_byte-code.ensures in
    let m = a.mem.now in
    let d = so_far (pen_of a.settings.linear a.list a.cursor) a.cells.now in
    let one = one-most (invokes a.settings.flag c.high_byte-code.result) in
    let drawn = e.ensures.column_le_end in record {
      column_le_end = (drawn.0, omega arith);
      by_index = λ n. ap (λ (cs : List ℕ). run_from (n + a.cursor.taken) m (each (examine a.settings a.room.source a.room.end) cs d))
          (codes-odd m a.at (a.count / 2) a.count (omega arith) (omega arith))
          ∙ listed-step m a.settings a.room.source a.room.end n a.list a.count (high _) [] a.cursor e.result a.cells.now _ pre.count_in_bounds.1 (omega arith)
          (rw code at drawn.2) (rw code at e.ensures.cells_after)
          ∙ run-done _ _ _;
    }

pub returns-else-count-eq1 : goal.returns-else-count-eq1
unfolding each codes_in
returns-else-count-eq1 c =
    let a = c.args in
    let pre = c.requires in
    let none : a.count - 2 * (a.count / 2) ≡ 0 = omega arith in
    record { column_le_end = (pre.end_in_bounds.1, omega arith); by_index = λ n. rw none (run-done _ _ _) }
