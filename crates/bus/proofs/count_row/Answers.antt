-- The tests are the definition's, in its order.
use mathlib.Core.Path.{sym, ◌∙◌}
use borrow.Author.Tests.{eq-eqb, ne_eqb}
use Rattle.bus.specs.Bus.{reported}
use Rattle.bus.proofs.count_row.Goals as goal

pub returns-then-row-eq0 : goal.returns-then-row-eq0
unfolding reported
returns-then-row-eq0 c = rw (c.refused.ensures, eq-eqb _ 0 c.if-row-eq0.true)

pub returns-then-not-all_fit : goal.returns-then-not-all_fit
unfolding reported
returns-then-not-all_fit c =
    rw (c.refused-then-not-all_fit.ensures, ne_eqb _ 0 c.if-row-eq0.false, sym c.all_fit.ensures ∙ c.if-not-all_fit.true)

pub returns : goal.returns
unfolding reported
returns c =
    rw (c.with_row-after.ensures, c.figures_of-f.ensures, ne_eqb _ 0 c.if-row-eq0.false, sym c.all_fit.ensures ∙ c.if-not-all_fit.false)
