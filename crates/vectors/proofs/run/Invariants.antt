-- Each line is one script, takes a byte at least, and counts once at most.
use Rattle.std.proofs.Common.{length, ◌+◌, ◌≤◌}
use Rattle.vectors.proofs.run.Given as goal

abbrev pub invariant-loop-rest : goal.invariant-loop-rest
invariant-loop-rest g l = (l.same ≤ l.scripts) × (l.scripts + length l.rest ≤ length l.names)

abbrev pub decreases-loop-rest : goal.decreases-loop-rest
decreases-loop-rest g l = length l.rest
