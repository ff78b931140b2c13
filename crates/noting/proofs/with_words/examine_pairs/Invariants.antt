use mathlib.Core.Path.{◌≡◌}
use Prim.Native.Nat.{ℕ, ◌+◌, ◌-◌, ◌*◌, ◌≤◌}
use Rattle.memory.specs.Address.{further}
use Rattle.codes.specs.Codes.{codes}
use Rattle.codes.specs.Answers.{so_far}
use Rattle.runs.specs.Runs.{in_force, pen_of}
use Rattle.noting.specs.Noting.{noting, pointing}
use Rattle.noting.proofs.with_words.examine_pairs.Given as goal

abbrev pub invariant-loop-i : goal.invariant-loop-i
invariant-loop-i l =
    (l.cursor.column ≤ l.room.end) × (l.cursor.attribute ≡ in_force l.settings.hidden l.room.source l.room.end l.cursor.latch) × (l.cursor.taken ≤ 2 * l.i)
    × ((f : ℕ) → noting l.words l.mem l.initial.list (codes l.settings l.room.source l.room.end l.count (pointing l.first f) (so_far (pen_of l.settings.linear l.next l.initial.cursor) l.initial.cells))
    ≡ noting (l.words + l.i + l.cursor.taken) l.mem l.list (codes l.settings l.room.source l.room.end (l.count - 2 * l.i) (further l.settings.linear l.i (pointing l.first f)) (so_far (pen_of l.settings.linear l.next l.cursor) l.cells)))
