-- Each part of the sum is the definition's.
use Rattle.std.proofs.Common.{◌≡◌, refl, Bool, true, false}
use mir.Val.{bool_byte}
use Rattle.image.specs.Image.{as_bit, switches_of}
use Rattle.image.proofs.switches_of.Goals as goal

bit : (b : Bool) → bool_byte b ≡ as_bit b
bit true = refl
bit false = refl

pub returns : goal.returns
unfolding switches_of
returns c =
    let s = c.args.s in
    rw (c.interlace_number.ensures.0, bit s.linear, bit s.hidden, bit s.cursor)
