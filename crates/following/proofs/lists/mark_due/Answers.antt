-- The three cases are the definition's.
use mathlib.Core.Path.{◌∙◌}
use borrow.Author.Tests.{lt-ltb, le-ltb}
use Rattle.marking.proofs.MarkLaws.{trails-still, trails-so}
use Rattle.following.proofs.ListLaws.{due-absent, due-not, due-now}
use Rattle.following.proofs.lists.mark_due.Goals as goal

pub returns-in-Some : goal.returns-in-Some
returns-in-Some c =
    rw c.in-Some.is (trails-so (c.mark_window.ensures _ _) (λ e. due-now _ _ _ _ _ _ (lt-ltb _ _ c.if-w-row.true) ∙ e))

pub returns-in_default : goal.returns-in_default
returns-in_default c = rw c.in-Some.is (trails-still _ (due-not _ _ _ _ _ _ (le-ltb _ _ c.if-w-row.false)))

pub returns-in_default-2 : goal.returns-in_default-2
returns-in_default-2 c = rw c.in_default.is (trails-still _ (due-absent _ _ _ _ _))
