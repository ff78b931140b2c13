-- The three cases are the definition's: no cell, a word first, or the latch.
use Rattle.marking.proofs.CodeLaws.{fill_none, fill-plain, fill-by-word}
use Rattle.marking.proofs.marked.Marked.walk_fill.Goals as goal

pub returns-then-end-pen-clause-follows : goal.returns-then-end-pen-clause-follows
returns-then-end-pen-clause-follows c = λ cs. fill_none _ _ _ _ cs _ _ c.if-end-pen.true

pub returns-then-settings-pen-clause-follows : goal.returns-then-settings-pen-clause-follows
returns-then-settings-pen-clause-follows c = λ cs. fill-by-word _ _ _ _ cs _ _ c.if-end-pen.false c.if-settings-pen.true (c.walk_fill_word.ensures.follows cs)

pub returns-else-settings-pen-clause-follows : goal.returns-else-settings-pen-clause-follows
returns-else-settings-pen-clause-follows c = λ cs. rw c.moved_to.ensures (fill-plain _ _ _ _ cs _ _ c.if-end-pen.false c.if-settings-pen.false)
