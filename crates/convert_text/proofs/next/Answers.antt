-- Each case of the text has its piece.
use Rattle.std.proofs.Common.{refl, arith, rules}
use Rattle.lines.proofs.PieceLaws.{last-piece}
use Rattle.convert_text.specs.ToCome.{to_come}
use Rattle.convert_text.proofs.next.Goals as goal

pub returns-in_ok-count-in-Script : goal.returns-in_ok-count-in-Script
unfolding to_come
returns-in_ok-count-in-Script c = rw c.in-Script.is c.in_ok-count-in-Script.ensures

pub returns-in_err-count-in-Script : goal.returns-in_err-count-in-Script
unfolding to_come
returns-in_err-count-in-Script c = rw (c.in-Script.is, c.from_residual.ensures) c.in_err-count-in-Script.ensures

pub returns-in-Refused : goal.returns-in-Refused
unfolding to_come
returns-in-Refused c = rw c.in-Refused.is (last-piece c.refusal_line.ensures refl (omega arith))

pub returns-in-NoScript : goal.returns-in-NoScript
unfolding to_come
returns-in-NoScript c = rw c.in-NoScript.is (last-piece c.script_line.ensures refl (omega arith))

pub returns-in-Ended : goal.returns-in-Ended
unfolding to_come
returns-in-Ended c = search rules
