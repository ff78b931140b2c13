-- Each field but the top is the one handed in.
use mathlib.Core.Path.{refl}
use Rattle.beside.specs.Beside.{with_top}
use Rattle.beside.proofs.with_top.Goals as goal

pub returns : goal.returns
unfolding with_top
returns c = refl
