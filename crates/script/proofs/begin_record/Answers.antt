-- The tests of the kind are the definition's, and each way out gives its case.
use Rattle.std.proofs.Common.{eq-eqb, ne_eqb, le-leb}
use borrow.Author.Tests.{lt-leb}
use Rattle.script.specs.Feeding.{begun}
use Rattle.script.proofs.begin_record.Goals as goal

pub returns-then-kind-eq0 : goal.returns-then-kind-eq0
unfolding begun
returns-then-kind-eq0 c = rw (eq-eqb _ 0 c.if-kind-eq0.true)

pub returns-then-kind-le3 : goal.returns-then-kind-le3
unfolding begun
returns-then-kind-le3 c =
    rw (c.count.ensures, c.body_length.ensures, ne_eqb _ 0 c.if-kind-eq0.false, le-leb _ 3 c.if-kind-le3.true)

pub returns-else-kind-le3 : goal.returns-else-kind-le3
unfolding begun
returns-else-kind-le3 c = rw (ne_eqb _ 0 c.if-kind-eq0.false, lt-leb _ 3 c.if-kind-le3.false)
