-- A null pointer changes nothing and reads nothing; any other is read, three words, and `format_of` makes the format of them.
use mathlib.Core.Path.{sym, ap, ◌∙◌}
use borrow.Author.Tests.{eq-eqb, ne_eqb}
use Rattle.memory.specs.Reading.{given}
use Rattle.memory.proofs.Laws.{exit, step_given, step-refused, run-done}
use Rattle.memory.proofs.WordLaws.{read_whole, read-refused}
use Rattle.blocks.specs.RowBlock.{redefined}
use Rattle.blocks.proofs.redefinition.Goals as goal

pub returns-then-p-eq0 : goal.returns-then-p-eq0
unfolding redefined
returns-then-p-eq0 c = rw (eq-eqb _ 0 c.if-p-eq0.true) (sym (run-done _ _ _))

pub returns : goal.returns
unfolding redefined
returns c =
    let r = c.read_words in
    rw (ne_eqb _ 0 c.if-p-eq0.false)
    (ap (given 3) c.format_of.ensures
    ∙ sym (step_given 0 _ _ _ (read_whole _ _ 3 _ _ _ r.ensures c.in_ok-read_words.was r.auto.into) ∙ run-done _ _ _))

pub returns-in_err-read_words : goal.returns-in_err-read_words
unfolding redefined
returns-in_err-read_words c =
    let r = c.read_words in
    rw (exit _ c.from_residual.ensures.1, ne_eqb _ 0 c.if-p-eq0.false) (sym (step-refused 0 _ _ _ (read-refused _ _ 3 _ _ _ r.ensures c.in_err-read_words.was)))
