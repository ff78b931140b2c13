use mathlib.Core.Path.{refl}
use Rattle.settings.specs.Timing.{clocks}
use Rattle.settings.proofs.clocks_of.Goals as goal

pub returns : goal.returns
unfolding clocks
returns c = refl
