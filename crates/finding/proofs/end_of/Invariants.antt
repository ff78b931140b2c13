-- What the frame from the first state on comes to is what it comes to from the state in hand on. Fewer lines are left after
-- a row.
use mathlib.Core.Path.{◌≡◌}
use lib.ListN.{length}
use Rattle.finding.proofs.WalkLaws.{Ending}
use Rattle.finding.proofs.end_of.Given as goal

abbrev pub invariant-loop-before : goal.invariant-loop-before
invariant-loop-before l = (length l.cells ≡ 132) × Ending l.settings l.mem l.initial.before l.before

abbrev pub decreases-loop-before : goal.decreases-loop-before
decreases-loop-before l = l.before.fields.left
