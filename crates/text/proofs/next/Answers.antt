-- Each case of the text has its lines.
use mathlib.Core.Path.{refl}
use native.Mathlib.Omega.{arith}
use Rattle.text.specs.Form.{to_come}
use Rattle.lines.proofs.PieceLaws.{last-piece}
use Rattle.text.proofs.next.Goals as goal

pub returns-in-Refused : goal.returns-in-Refused
unfolding to_come
returns-in-Refused g c =
    rw c.in-Refused.is
    (last-piece c.refusal_line.ensures refl (omega arith))

pub returns-in-NoScript : goal.returns-in-NoScript
unfolding to_come
returns-in-NoScript g c =
    rw c.in-NoScript.is
    (last-piece c.script_line.ensures refl (omega arith))

pub returns-in-Ended : goal.returns-in-Ended
unfolding to_come
returns-in-Ended g c = rw c.in-Ended.is
