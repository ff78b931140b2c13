-- The redefinition pointer's words, then those of the segments.
use Rattle.memory.proofs.Laws.{exit}
use Rattle.memory.specs.Reading.{one_pointer}
use Rattle.blocks.specs.RowBlock.{segment_roles}
use Rattle.following.proofs.ListLaws.{rest-faulted, rest-passed}
use Rattle.marking.proofs.MarkLaws.{trails-so, trails-on, one-shaped, segments-shaped}
use Rattle.following.proofs.lists.mark_rest.Goals as goal

pub returns-in_err-mark_words : goal.returns-in_err-mark_words
returns-in_err-mark_words c =
    rw (exit _ c.from_residual.ensures.1) (λ head h.
    trails-so (rw (c.in_err-mark_words.was, c.further-re.ensures) at (c.mark_words.ensures one_pointer (one-shaped c.args.pointed))) (rest-faulted _ _ _ _ _ head _))

pub returns : goal.returns
returns c = λ head h.
    let a = c.args in
    trails-on (rw (c.in_ok-mark_words.was, c.further-re.ensures) at (c.mark_words.ensures one_pointer (one-shaped a.pointed)))
    (rw c.further-first.ensures at (c.mark_words-2.ensures (segment_roles a.number) (segments-shaped a.number)))
    (rest-passed _ _ _ _ _ head _ _ h)
