-- A window block asks for its words alone.
use mathlib.Core.Path.{◌∙◌}
use borrow.Author.Tests.{eq-eqb, ne_eqb}
use Rattle.windows.specs.Window.{two_pointers}
use Rattle.following.proofs.ListLaws.{window-null, window-words}
use Rattle.marking.proofs.MarkLaws.{trails-still, trails-so, two_shaped}
use Rattle.following.proofs.lists.mark_window.Goals as goal

pub returns-then-p-eq0 : goal.returns-then-p-eq0
returns-then-p-eq0 c = λ number least. trails-still _ (window-null _ _ _ _ number least _ (eq-eqb _ 0 c.if-p-eq0.true))

pub returns : goal.returns
returns c = λ number least.
    trails-so (c.mark_words.ensures two_pointers (two_shaped 6)) (λ e. window-words _ _ _ _ number least _ (ne_eqb _ 0 c.if-p-eq0.false) ∙ e)
