-- The loop ends, since each call that writes lines leaves fewer. What came before agrees with the stored bytes, and lies in them.
use Rattle.std.proofs.Common.{length, ◌≤◌}
use Rattle.text.specs.ToCome.{calls}
use Rattle.vectors.proofs.compare_text.Given as goal

abbrev pub invariant-loop-count : goal.invariant-loop-count
invariant-loop-count l = l.at ≤ length l.want

abbrev pub decreases-loop-count : goal.decreases-loop-count
decreases-loop-count l = calls l.text
