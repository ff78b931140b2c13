-- A redefinition asks for its words alone.
use mathlib.Core.Path.{◌∙◌}
use borrow.Author.Tests.{eq-eqb, ne_eqb}
use mathlib.Core.List.{[]}
use Rattle.following.proofs.ListLaws.{redefined-null, redefined-words}
use Rattle.marking.proofs.MarkLaws.{trails-still, trails-so, plain-shaped}
use Rattle.following.proofs.lists.mark_redefinition.Goals as goal

pub returns-then-p-eq0 : goal.returns-then-p-eq0
returns-then-p-eq0 c = λ format. trails-still _ (redefined-null _ _ _ _ _ format (eq-eqb _ 0 c.if-p-eq0.true))

pub returns : goal.returns
returns c = λ format. trails-so (c.mark_words.ensures [] (plain-shaped 3)) (λ e. redefined-words _ _ _ _ _ format (ne_eqb _ 0 c.if-p-eq0.false) ∙ e)
