-- A script that draws has the text of its conversion and leaves what that leaves; one that is refused, or whose input ends here,
-- has the line with its offset, and leaves all as it was.
use mathlib.Core.Path.{refl}
use Rattle.convert_text.specs.ToCome.{to_come}
use Rattle.convert_text.proofs.begin.Goals as goal

pub returns-in-Draw : goal.returns-in-Draw
returns-in-Draw c = rw c.in-Draw.is c.begin_converted.ensures

pub returns-in-Refused : goal.returns-in-Refused
unfolding to_come
returns-in-Refused c = rw c.in-Refused.is (refl, refl)

pub returns-in-More : goal.returns-in-More
unfolding to_come
returns-in-More c = rw c.in-More.is (cc, refl)
