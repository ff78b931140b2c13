-- The three cases are the definition's.
use mathlib.Core.Path.{sym, ◌∙◌}
use Rattle.marking.proofs.MarkLaws.{trails-still, trails-so}
use Rattle.following.proofs.ListLaws.{overlay-absent, overlay-off, overlay-on}
use Rattle.following.proofs.lists.mark_overlay.Goals as goal

pub returns-in-Some : goal.returns-in-Some
returns-in-Some c =
    rw c.in-Some.is (trails-so c.mark_block.ensures (λ e. overlay-on _ _ _ _ _ _ (sym c.is_on_row.ensures ∙ c.if-is_on_row.true) ∙ e))

pub returns-in_default : goal.returns-in_default
returns-in_default c = rw c.in-Some.is (trails-still _ (overlay-off _ _ _ _ _ _ (sym c.is_on_row.ensures ∙ c.if-is_on_row.false)))

pub returns-in_default-2 : goal.returns-in_default-2
returns-in_default-2 c = rw c.in_default.is (trails-still _ (overlay-absent _ _ _ _ _))
