-- The head, then the redefinition pointer, then the segments: each step is one of the reading.
use mathlib.Core.Path.{sym, ◌∙◌}
use borrow.Author.Tests.{eq-eqb, ne_eqb}
use Rattle.memory.proofs.Laws.{exit, step-refused, run-done}
use Rattle.memory.proofs.WordLaws.{read_whole, read-refused}
use Rattle.memory.proofs.Roles.{run-as}
use Rattle.blocks.specs.RowBlock.{segments_at, block_at}
use Rattle.blocks.proofs.BlockLaws.{block_read, block_refused}
use Rattle.blocks.proofs.block_at.Goals as goal

pub returns-then-p-eq0 : goal.returns-then-p-eq0
unfolding block_at segments_at
returns-then-p-eq0 c = rw (eq-eqb _ 0 c.if-p-eq0.true) (sym (run-done _ _ _))

pub returns : goal.returns
unfolding block_at
returns c =
    let r = c.read_words in
    rw (ne_eqb _ 0 c.if-p-eq0.false)
    (c.segments_from.ensures
    ∙ block_read _ _ c.args.redefines _ _ (read_whole _ _ 3 _ _ _ r.ensures c.in_ok-read_words.was r.auto.into) _ c.is_pointed-pointed.ensures _ c.redefinition_pointer.ensures _ _ c.in_ok-redefinition.was c.words_before-words.ensures)

pub returns-in_err-redefinition : goal.returns-in_err-redefinition
unfolding block_at
returns-in_err-redefinition c =
    let r = c.read_words in
    rw (exit _ c.from_residual-in_err-redefinition.ensures.1, ne_eqb _ 0 c.if-p-eq0.false)
    (block_refused _ _ c.args.redefines _ _ (read_whole _ _ 3 _ _ _ r.ensures c.in_ok-read_words.was r.auto.into) _ c.is_pointed-pointed.ensures _ c.redefinition_pointer.ensures _ c.in_err-redefinition.was)

pub returns-in_err-read_words : goal.returns-in_err-read_words
unfolding block_at
returns-in_err-read_words c =
    let r = c.read_words in
    rw (exit _ c.from_residual.ensures.1, ne_eqb _ 0 c.if-p-eq0.false) (sym (step-refused 0 _ _ _ (run-as _ _ _ _ ∙ read-refused _ _ 3 _ _ _ r.ensures c.in_err-read_words.was)))
