-- A null register asks for nothing, another for the words of a main block.
use mathlib.Core.Path.{◌∙◌}
use borrow.Author.Tests.{eq-eqb, ne_eqb}
use Rattle.memory.specs.Reading.{one_pointer}
use Rattle.following.proofs.ListLaws.{top-null, top-words}
use Rattle.marking.proofs.MarkLaws.{trails-still, trails-so, one-shaped}
use Rattle.following.proofs.lists.mark_top.Goals as goal

pub returns-then-p-eq0 : goal.returns-then-p-eq0
returns-then-p-eq0 c = trails-still _ (top-null _ _ _ _ _ (rw c.pointer_of-p.ensures at (eq-eqb _ 0 c.if-p-eq0.true)))

pub returns : goal.returns
returns c =
    trails-so (rw c.pointer_of-p.ensures at (c.mark_words.ensures one_pointer (one-shaped 7)))
    (λ e. top-words _ _ _ _ _ (rw c.pointer_of-p.ensures at (ne_eqb _ 0 c.if-p-eq0.false)) ∙ e)
