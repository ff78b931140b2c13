use mathlib.Core.Path.{◌≡◌}
use Prim.Native.Nat.{◌+◌, ◌*◌, ◌≤◌}
use lib.ListN.{length}
use Rattle.memory.specs.Reading.{run_from}
use Rattle.codes.specs.Codes.{codes}
use Rattle.codes.specs.Answers.{so_far}
use Rattle.codes.proofs.word_by_word.draw_word_by_word.Given as goal

abbrev pub invariant-loop-left : goal.invariant-loop-left
invariant-loop-left l =
    (length l.cells ≡ length l.initial.cells) × (l.current.column ≤ l.room.end) × (l.read + 2 * l.left ≤ l.words + 2 * l.count)
    × (run_from l.words l.mem (codes l.settings l.room.source l.room.end l.count l.initial.at (so_far l.initial.current l.initial.cells)) ≡ run_from l.read l.mem (codes l.settings l.room.source l.room.end l.left l.at (so_far l.current l.cells)))

abbrev pub decreases-loop-left : goal.decreases-loop-left
decreases-loop-left l = l.left
