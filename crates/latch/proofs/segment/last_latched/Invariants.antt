use mathlib.Core.Path.{◌≡◌}
use Rattle.latch.specs.Latch.{last_latched}
use Rattle.latch.proofs.segment.last_latched.Given as goal

abbrev pub invariant-loop-i : goal.invariant-loop-i
invariant-loop-i l = last_latched l.mem l.at l.count ≡ last_latched l.mem l.at l.i
