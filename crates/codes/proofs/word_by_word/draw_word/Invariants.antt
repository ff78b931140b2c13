use mathlib.Core.Path.{◌≡◌}
use mathlib.Core.List.{List, [], ◌∷◌}
use Prim.Native.Nat.{ℕ, ◌+◌, ◌-◌, ◌≤◌}
use lib.ListN.{take, drop}
use Rattle.memory.specs.Word.{high, low}
use Rattle.memory.specs.Reading.{each, run_from}
use Rattle.codes.specs.Codes.{examine, word_codes}
use Rattle.codes.specs.Answers.{so_far}
use Rattle.codes.proofs.word_by_word.draw_word.Given as goal

abbrev pub bytes : ℕ → List ℕ
bytes w = high w ∷ low w ∷ []

abbrev pub invariant-loop-i : goal.invariant-loop-i
invariant-loop-i l =
    (l.current.column ≤ l.room.end) × (l.read ≤ l.words + l.i)
    × (run_from l.words l.mem (word_codes l.settings l.room.source l.room.end l.n l.w (so_far l.initial.current l.initial.cells))
    ≡ run_from l.read l.mem (each (examine l.settings l.room.source l.room.end) (take (l.n - l.i) (drop l.i (bytes l.w))) (so_far l.current l.cells)))
