-- Both edges are judged by `is_boundary`; without a window there is none.
use Rattle.layout.specs.Layout.{edges_fit}
use Rattle.layout.proofs.overlay.edges_fit.Goals as goal

-- Both edges are judged by `is_boundary`; without a window there is none.
pub returns-in-None : goal.returns-in-None
unfolding edges_fit
returns-in-None c ws = rw c.in-None.is

pub returns-in-Some : goal.returns-in-Some
unfolding edges_fit
returns-in-Some c ws = rw (c.in-Some.is, c.is_boundary.ensures, c.is_boundary-in-Some.ensures)
