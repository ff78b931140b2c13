-- The words of the codes, and those they take, each stand one after the other, or it is unclear.
use mathlib.Core.Path.{sym, ◌∙◌}
use Rattle.memory.proofs.RunLaws.{run_ends}
use Rattle.latch.specs.Latch.{over_segment}
use Rattle.latch.proofs.segment.segment_latch.Goals as goal

pub returns-then-not-is_run : goal.returns-then-not-is_run
unfolding over_segment
returns-then-not-is_run c = rw (rw c.code_count-n.ensures.0 at (sym c.is_run.ensures ∙ c.if-not-is_run.true))

pub words_taken-k-requires : goal.words_taken-k-requires
words_taken-k-requires c =
    run_ends _ _ _ _ (rw c.code_count-n.ensures.0 at (sym c.is_run.ensures ∙ c.if-not-is_run.false))

pub last_latched-requires : goal.last_latched-requires
last_latched-requires c = run_ends _ _ _ _ (sym c.is_run-2.ensures ∙ c.if-is_run.true)

pub returns-then-is_run : goal.returns-then-is_run
unfolding over_segment
returns-then-is_run c =
    let r = rw c.code_count-n.ensures.0 at (sym c.is_run.ensures ∙ c.if-not-is_run.false) in
    rw (r, ← c.words_taken-k.ensures, ← c.is_run-2.ensures, c.if-is_run.true) c.last_latched.ensures

pub returns-else-is_run : goal.returns-else-is_run
unfolding over_segment
returns-else-is_run c =
    let r = rw c.code_count-n.ensures.0 at (sym c.is_run.ensures ∙ c.if-not-is_run.false) in
    rw (r, ← c.words_taken-k.ensures, ← c.is_run-2.ensures, c.if-is_run.false)
