-- One column further where the test of the definition holds, and the same pen where it does not.
use Rattle.marking.proofs.CodeLaws.{past-put, past-out}
use Rattle.marking.proofs.row_cells.past_character.Goals as goal

pub returns-then-is_shown-column-clause-value : goal.returns-then-is_shown-column-clause-value
returns-then-is_shown-column-clause-value c = λ source code cs.
    rw c.moved_to.ensures (past-put _ source _ _ code _ cs (rw c.is_shown.ensures at c.if-is_shown-column.true))

pub returns-else-is_shown-column-clause-value : goal.returns-else-is_shown-column-clause-value
returns-else-is_shown-column-clause-value c = λ source code cs. past-out _ source _ _ code _ cs (rw c.is_shown.ensures at c.if-is_shown-column.false)
