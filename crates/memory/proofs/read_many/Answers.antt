-- No words need no reading; those of a run are copied; others are read word by word.
use Rattle.std.proofs.Common.{sym, ◌∙◌}
use Rattle.memory.proofs.RunLaws.{run_ends, run-copied, no_words}
use Rattle.memory.proofs.read_many.Goals as goal

-- No words need no reading; those of a run are copied; others are read word by word.
pub returns-then-into-eq0 : goal.returns-then-into-eq0
returns-then-into-eq0 c = let a = c.args in no_words a.linear a.mem.now a.p a.into.now c.if-into-eq0.true

pub copy_run-requires : goal.copy_run-requires
copy_run-requires c = run_ends _ _ _ _ (sym c.is_run.ensures ∙ c.if-is_run.true)

pub returns-then-is_run : goal.returns-then-is_run
returns-then-is_run c =
    run-copied _ _ _ _ _ (sym c.is_run.ensures ∙ c.if-is_run.true) c.copy_run.ensures
