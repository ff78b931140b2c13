use mathlib.Core.Path.{◌≡◌}
use Prim.Native.Nat.{◌≤◌}
use lib.ListN.{take}
use Rattle.converter.specs.Converter.{turned_memory, changes}
use Rattle.conversion.proofs.turn.Given as goal

abbrev pub invariant-loop-i : goal.invariant-loop-i
invariant-loop-i l =
    (l.mem ≡ turned_memory (take l.i l.marks) l.initial.mem) × (l.count ≡ changes l.initial.mem l.mem) × (l.count ≤ l.i)
