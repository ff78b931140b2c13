-- The sum is the definition's; each part stays below its bits, so nothing wraps.
use mathlib.Core.Path.{refl}
use Rattle.codes.specs.Attribute.{source_number, window_number, cell}
use Rattle.codes.proofs.attribute.cell.Goals as goal

pub returns : goal.returns
unfolding cell source_number window_number
returns c = refl
