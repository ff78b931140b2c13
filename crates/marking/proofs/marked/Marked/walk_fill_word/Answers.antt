-- The word of the list is marked, then taken where it has bit 15.
use mathlib.Core.Path.{refl, sym, ◌∙◌}
use Rattle.memory.proofs.Laws.{exit}
use Rattle.memory.specs.Reading.{Other}
use Rattle.marking.proofs.CodeLaws.{fill-halted, fill-word, fill-unlatched}
use Rattle.marking.proofs.marked.Marked.walk_fill_word.Goals as goal

pub returns-in_err-w-clause-follows : goal.returns-in_err-w-clause-follows
returns-in_err-w-clause-follows c = λ cs.
    rw (exit _ c.from_residual.ensures.1) (fill-halted _ _ _ _ cs _ _ (rw c.in_err-w.was at (c.mark_word.ensures.walked Other refl)))

pub returns-then-bit_15-clause-follows : goal.returns-then-bit_15-clause-follows
returns-then-bit_15-clause-follows c = λ cs.
    rw (c.moved_to.ensures, c.take_word-taken.ensures)
    (fill-word _ _ _ _ cs _ _ c.requires (rw c.in_ok-w.was at (c.mark_word.ensures.walked Other refl)) (sym c.bit_15.ensures ∙ c.if-bit_15.true))

pub returns-else-bit_15-clause-follows : goal.returns-else-bit_15-clause-follows
returns-else-bit_15-clause-follows c = λ cs.
    rw c.unlatched.ensures
    (fill-unlatched _ _ _ _ cs _ _ (rw c.in_ok-w.was at (c.mark_word.ensures.walked Other refl)) (sym c.bit_15.ensures ∙ c.if-bit_15.false))
