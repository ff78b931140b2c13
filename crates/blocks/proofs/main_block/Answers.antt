-- Seven words are read, and `main_block_of` makes the block of them; a refused reading is the refusal.
use mathlib.Core.Path.{sym, ap, ◌∙◌}
use Rattle.memory.specs.Reading.{given}
use Rattle.memory.proofs.Laws.{exit, step_given, step-refused, run-done}
use Rattle.memory.proofs.WordLaws.{read_whole, read-refused}
use Rattle.memory.proofs.Roles.{run-as}
use Rattle.blocks.specs.Main.{main_block_at}
use Rattle.blocks.proofs.main_block.Goals as goal

pub returns : goal.returns
unfolding main_block_at
returns c =
    let r = c.read_words in
    ap (given 7) c.main_block_of.ensures
    ∙ sym (step_given 0 _ _ _ (run-as _ _ _ _ ∙ read_whole _ _ 7 _ _ _ r.ensures c.in_ok-read_words.was r.auto.into) ∙ run-done _ _ _)

pub returns-in_err-read_words : goal.returns-in_err-read_words
unfolding main_block_at
returns-in_err-read_words c =
    let r = c.read_words in
    rw (exit _ c.from_residual.ensures.1) (sym (step-refused 0 _ _ _ (run-as _ _ _ _ ∙ read-refused _ _ 7 _ _ _ r.ensures c.in_err-read_words.was)))
