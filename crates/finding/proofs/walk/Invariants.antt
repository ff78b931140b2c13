-- A walk of the rows from the first state on stands before the row of the state in hand, with the lines before it passed. Fewer
-- lines are left after a row.
use mathlib.Core.Path.{◌≡◌}
use lib.ListN.{length}
use Rattle.finding.proofs.WalkLaws.{Turn}
use Rattle.finding.proofs.walk.Given as goal

abbrev pub invariant-loop-before : goal.invariant-loop-before
invariant-loop-before l = (length l.cells ≡ 132) × Turn l.settings l.mem l.initial.before l.initial.line l.before l.line l.index

abbrev pub decreases-loop-before : goal.decreases-loop-before
decreases-loop-before l = l.before.fields.left
