use mathlib.Core.Path.{◌≡◌}
use mathlib.Core.List.{◌++◌}
use Prim.Native.Nat.{◌+◌, ◌*◌, ◌≤◌}
use lib.ListN.{length, take, drop}
use Rattle.image.specs.Written.{word_record, values_text}
use Rattle.image.proofs.put_words.Given as goal

abbrev pub invariant-loop-i : goal.invariant-loop-i
invariant-loop-i l =
    (length l.out ≡ 2048) × (l.at + 6 * l.from ≤ 6 * l.i) × (take l.at l.out ++ values_text word_record l.i (drop l.i l.mem) ≡ values_text word_record l.from (drop l.from l.mem))
