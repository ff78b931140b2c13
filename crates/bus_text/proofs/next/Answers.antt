-- Each case of the text has its lines.
use mathlib.Core.Path.{refl}
use native.Mathlib.Omega.{arith}
use Rattle.bus_text.specs.ToCome.{to_come}
use Rattle.lines.proofs.PieceLaws.{last-piece}
use Rattle.bus_text.proofs.next.Goals as goal

pub returns-in-Refused : goal.returns-in-Refused
unfolding to_come
returns-in-Refused c =
    rw c.in-Refused.is
    (last-piece c.refusal_line.ensures refl (omega arith))

pub returns-in-NoScript : goal.returns-in-NoScript
unfolding to_come
returns-in-NoScript c =
    rw c.in-NoScript.is
    (last-piece c.script_line.ensures refl (omega arith))

pub returns-in-Ended : goal.returns-in-Ended
unfolding to_come
returns-in-Ended c = rw c.in-Ended.is
