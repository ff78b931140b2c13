-- The two cases are the definition's: with the fill flag and without.
use mathlib.Core.Path.{◌∙◌}
use Rattle.sure.specs.Sure.{sure_list}
use Rattle.sure.proofs.known.is_sure_list.Goals as goal

pub returns-then-flag : goal.returns-then-flag
unfolding sure_list
returns-then-flag c = rw (c.if-flag.true, c.code_count-codes.ensures.0, c.does_stand.ensures)

pub returns-else-flag : goal.returns-else-flag
unfolding sure_list
returns-else-flag c = c.is_run.ensures ∙ rw (c.if-flag.false, c.code_count-codes.ensures.0)
