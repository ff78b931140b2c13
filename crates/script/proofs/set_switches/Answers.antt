-- Each switch is the bit that the definition has; the two bits of the interlace mode fit any width.
use Rattle.std.proofs.Common.{div-one}
use Rattle.script.specs.Records.{switched}
use Rattle.script.proofs.set_switches.Goals as goal

pub returns : goal.returns
unfolding switched
returns c = rw (c.from.ensures, div-one)
