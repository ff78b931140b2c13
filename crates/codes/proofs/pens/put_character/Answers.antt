-- One cell more at the pen's column where the test of the definition holds, and the same drawing where it does not.
use Rattle.std.proofs.Common.{arith}
use Rattle.codes.proofs.CodeLaws.{character-put, character-out}
use Rattle.codes.proofs.pens.put_character.Goals as goal

pub returns-then-is_shown-column-clause-cells_after : goal.returns-then-is_shown-column-clause-cells_after
returns-then-is_shown-column-clause-cells_after c =
    rw (c.moved_to.ensures, c.cell.ensures)
    (character-put _ _ _ _ _ _ _ (rw c.is_shown.ensures at c.if-is_shown-column.true) (omega arith))

pub returns-else-is_shown-column-clause-cells_after : goal.returns-else-is_shown-column-clause-cells_after
returns-else-is_shown-column-clause-cells_after c =
    character-out _ _ _ _ _ _ _ (rw c.is_shown.ensures at c.if-is_shown-column.false)
