-- Each field is the definition's; what is cast has few bits, so nothing is lost.
use mathlib.Core.Path.{refl}
use Rattle.blocks.specs.RowBlock.{format_of}
use Rattle.blocks.proofs.format_of.Goals as goal

pub returns : goal.returns
unfolding format_of
returns c = refl
