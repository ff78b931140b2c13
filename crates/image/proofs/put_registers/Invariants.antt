use mathlib.Core.Path.{◌≡◌}
use mathlib.Core.List.{◌++◌}
use Prim.Native.Nat.{◌+◌, ◌*◌, ◌≤◌}
use lib.ListN.{length, take, drop}
use Rattle.image.specs.Written.{register_record, values_text}
use Rattle.image.proofs.put_registers.Given as goal

abbrev pub invariant-loop-i : goal.invariant-loop-i
invariant-loop-i l =
    (length l.out ≡ 2048) × (l.at ≤ 2 + 4 * l.i)
    × (take l.at l.out ++ values_text register_record l.i (drop l.i l.registers) ≡ take 2 l.initial.out ++ values_text register_record 0 l.registers)
