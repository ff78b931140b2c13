-- Good settings are the test, and meet what the sums of the sheet need.
use mathlib.Core.Path.{sym, ◌∙◌}
use Rattle.settings.specs.Sheet.{sheet_call}
use Rattle.settings.proofs.GoodLaws.{ordered}
use Rattle.settings.proofs.settings_sheet.Goals as goal

-- Good settings are the test, and meet what the sums of the sheet need.
pub sheet_of-requires : goal.sheet_of-requires
sheet_of-requires c = ordered _ (sym c.is_good.ensures ∙ c.if-is_good.true)

pub returns-then-is_good : goal.returns-then-is_good
unfolding sheet_call
returns-then-is_good c = rw (← c.is_good.ensures, c.if-is_good.true, c.sheet_of.ensures)

pub returns-else-is_good : goal.returns-else-is_good
unfolding sheet_call
returns-else-is_good c = rw (← c.is_good.ensures, c.if-is_good.false, c.refused.ensures)
