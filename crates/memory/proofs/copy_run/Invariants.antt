-- As many words as the index are those from number `at` on.
use Rattle.std.proofs.Common.{◌≡◌, take, drop}
use Rattle.memory.proofs.copy_run.Given as goal

abbrev pub invariant-loop-i : goal.invariant-loop-i
invariant-loop-i l = take l.i l.into ≡ take l.i (drop l.at l.mem)
