-- Without a list none; else one for each code that invokes.
use borrow.Author.Tests.{eq-eqb, ne_eqb}
use Rattle.latch.specs.Latch.{taken}
use Rattle.latch.proofs.segment.words_taken.Goals as goal

pub returns-then-g-eq0 : goal.returns-then-g-eq0
unfolding taken
returns-then-g-eq0 c = rw (eq-eqb _ 0 c.if-g-eq0.true)

pub returns-else-g-eq0 : goal.returns-else-g-eq0
unfolding taken
returns-else-g-eq0 c = rw (ne_eqb _ 0 c.if-g-eq0.false, ← c.code_count-n.ensures.0) c.count_invoking.ensures
