-- Mask and value are the flag's bytes, as the definition has them.
use Rattle.std.proofs.Common.{refl}
use Rattle.codes.specs.Attribute.{invokes}
use Rattle.codes.proofs.attribute.invokes.Goals as goal

pub returns : goal.returns
unfolding invokes
returns c = rw (c.low_byte.ensures, c.high_byte-mask.ensures) refl
