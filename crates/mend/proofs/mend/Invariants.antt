-- The lines so far and the text of the list that they leave are the mended list's. The loop ends, since each change leaves fewer words that are
-- not 0.
use Rattle.mend_text.specs.NextChange.{to_mend}
use Rattle.mending.specs.Mending.{count}
use Rattle.script_input.proofs.Printing.{SoFar}
use Rattle.mend.proofs.mend.Given as goal

abbrev pub invariant-loop-count : goal.invariant-loop-count
invariant-loop-count g l = SoFar (g.W.Write.contents l.initial.to) (g.W.Write.contents l.to) (to_mend l.now l.mem) (to_mend l.initial.now l.initial.mem)

abbrev pub decreases-loop-count : goal.decreases-loop-count
decreases-loop-count g l = count l.now l.mem
