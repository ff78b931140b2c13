-- One code or two, the high byte first.
use native.Mathlib.Omega.{arith}
use Rattle.memory.proofs.Laws.{exit}
use Rattle.marking.proofs.CodeLaws.{word-halted, word-one, word_two}
use Rattle.marking.proofs.marked.Marked.walk_word.Goals as goal

pub returns-in_err-after-clause-follows : goal.returns-in_err-after-clause-follows
returns-in_err-after-clause-follows c = λ source cs.
    rw (exit _ c.from_residual.ensures.1)
    (word-halted _ _ _ _ _ _ _ _ _ c.requires.0 c.requires.1 (rw (c.in_err-after.was, c.high_byte.ensures) at (c.walk_code.ensures.follows source cs)))

pub returns-then-n-lt2-clause-follows : goal.returns-then-n-lt2-clause-follows
returns-then-n-lt2-clause-follows c = λ source cs.
    word-one _ _ _ _ _ _ _ _ _ (omega arith) (rw (c.in_ok-after.was, c.high_byte.ensures) at (c.walk_code.ensures.follows source cs))

pub returns-else-n-lt2-clause-follows : goal.returns-else-n-lt2-clause-follows
returns-else-n-lt2-clause-follows c = λ source cs.
    word_two _ _ _ _ _ _ _ _ _ (omega arith) (rw (c.in_ok-after.was, c.high_byte.ensures) at (c.walk_code.ensures.follows source cs))
    (λ ds. rw (c.low_byte.ensures, c.walk_code.ensures.kept.mem) at (c.walk_code-else-n-lt2.ensures.follows source ds))
