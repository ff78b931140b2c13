-- A code that takes a word of the list marks it; what is known of the pen is what the definition says.
use mathlib.Core.Path.{refl}
use Rattle.memory.proofs.Laws.{exit}
use Rattle.memory.specs.Reading.{Other}
use Rattle.codes.specs.Codes.{taking}
use Rattle.marking.proofs.CodeLaws.{examine-halted, examine-went, examine-latch}
use Rattle.marking.proofs.marked.Marked.walk_code.Goals as goal

pub returns-in_err-w-clause-follows : goal.returns-in_err-w-clause-follows
returns-in_err-w-clause-follows c = λ source cs.
    rw (exit _ c.from_residual.ensures.1)
    (examine-halted _ _ _ _ _ _ _ _ (rw c.invokes.ensures at c.if-invokes-pen.true) (rw c.in_err-w.was at (c.mark_word.ensures.walked Other refl)))

pub returns-in_ok-w-clause-up_to : goal.returns-in_ok-w-clause-up_to
unfolding taking
returns-in_ok-w-clause-up_to c = rw c.take_word-taken.ensures at c.past_character.ensures.column

pub returns-in_ok-w-clause-follows : goal.returns-in_ok-w-clause-follows
returns-in_ok-w-clause-follows c = λ source cs.
    examine-went _ _ _ _ _ _ _ _ (rw c.invokes.ensures at c.if-invokes-pen.true) (rw c.in_ok-w.was at (c.mark_word.ensures.walked Other refl))
    (rw c.take_word-taken.ensures at (c.past_character.ensures.value source c.args.code cs))

pub returns-else-invokes-pen-clause-follows : goal.returns-else-invokes-pen-clause-follows
returns-else-invokes-pen-clause-follows c = λ source cs.
    examine-latch _ _ _ _ _ _ _ _ (rw c.invokes.ensures at c.if-invokes-pen.false) (c.past_character-else-invokes-pen.ensures.value source c.args.code cs)
