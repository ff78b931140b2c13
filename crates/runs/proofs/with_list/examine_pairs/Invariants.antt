use mathlib.Core.Path.{◌≡◌}
use Prim.Native.Nat.{ℕ, ◌+◌, ◌-◌, ◌*◌, ◌≤◌}
use lib.ListN.{drop}
use Rattle.memory.specs.Reading.{each, run_from}
use Rattle.codes.specs.Codes.{examine}
use Rattle.codes.specs.Answers.{so_far}
use Rattle.runs.specs.Runs.{codes_in, in_force, pen_of}
use Rattle.runs.proofs.with_list.examine_pairs.Given as goal

abbrev pub invariant-loop-w : goal.invariant-loop-w
invariant-loop-w l =
    (l.cursor.column ≤ l.room.end) × (l.cursor.attribute ≡ in_force l.settings.hidden l.room.source l.room.end l.cursor.latch) × (l.cursor.taken ≤ 2 * l.w-index)
    × ((n : ℕ) → run_from n l.mem (each (examine l.settings l.room.source l.room.end) (codes_in (drop l.at l.mem) l.count) (so_far (pen_of l.settings.linear l.list l.initial.cursor) l.initial.cells))
    ≡ run_from (n + l.cursor.taken) l.mem (each (examine l.settings l.room.source l.room.end) (codes_in (drop (l.at + l.w-index) l.mem) (l.count - 2 * l.w-index)) (so_far (pen_of l.settings.linear l.list l.cursor) l.cells)))
