-- The sums fit, and each number of the largest row is picked by the test that the definition has.
use mathlib.Core.Path.{ap}
use native.Mathlib.Omega.{arith}
use Rattle.bus.specs.declared.Figures.{Figures}
use Rattle.bus.specs.Bus.{added}
use Rattle.bus.proofs.BusLaws.{totals-fit}
use Rattle.bus.proofs.with_row.Goals as goal

pub overflow_add-result : goal.overflow_add-result
unfolding added
overflow_add-result c = omega (arith, (totals-fit (added c.args.t c.args.row) c.requires.1).0)

pub overflow_add-result-2 : goal.overflow_add-result-2
unfolding added
overflow_add-result-2 c = omega (arith, (totals-fit (added c.args.t c.args.row) c.requires.1).1, ap (λ (f : Figures). f.bursts) c.requires.0)

pub overflow_add-result-3 : goal.overflow_add-result-3
unfolding added
overflow_add-result-3 c = omega (arith, (totals-fit (added c.args.t c.args.row) c.requires.1).2, ap (λ (f : Figures). f.released) c.requires.0)

pub returns : goal.returns
unfolding added
returns c = rw (c.pick-3.ensures, c.pick-2.ensures, c.pick.ensures, c.requires.0)
