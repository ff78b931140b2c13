-- The two words are read where they are there; no words give the null pointer.
use mathlib.Core.Path.{sym, ◌∙◌}
use Rattle.memory.proofs.Laws.{exit, step_given, step-refused, run-done}
use Rattle.memory.proofs.WordLaws.{read_whole, read-refused}
use Rattle.memory.proofs.Roles.{run-as}
use Rattle.blocks.specs.Answers.{redefinition_pointer}
use Rattle.blocks.proofs.BlockLaws.{no-redefinition}
use Rattle.blocks.proofs.redefinition_pointer.Goals as goal

pub returns-in_ok-read_words : goal.returns-in_ok-read_words
unfolding redefinition_pointer
returns-in_ok-read_words c =
    let r = c.read_words in
    let f = c.further-at.ensures in
    rw (c.if-pointed.true, c.pointer_of.ensures, f)
    (sym (step_given 3 _ _ _ (run-as _ _ _ _ ∙ read_whole _ _ 2 _ _ _ (rw f at r.ensures) c.in_ok-read_words.was r.auto.into) ∙ run-done _ _ _))

pub returns-in_err-read_words : goal.returns-in_err-read_words
unfolding redefinition_pointer
returns-in_err-read_words c =
    let r = c.read_words in
    let f = c.further-at.ensures in
    rw (exit _ c.from_residual.ensures.1, c.if-pointed.true)
    (sym (step-refused 3 _ _ _ (run-as _ _ _ _ ∙ read-refused _ _ 2 _ _ _ (rw f at r.ensures) c.in_err-read_words.was)))

pub returns-else-pointed : goal.returns-else-pointed
returns-else-pointed c = rw c.if-pointed.false (sym (no-redefinition _ _ _ _))
