-- A script that draws has its frame's text; one that is refused, or whose input ends here, has the line with its offset.
use Rattle.text.specs.Form.{to_come}
use Rattle.text.proofs.begin.Goals as goal

pub returns-in-Refused : goal.returns-in-Refused
unfolding to_come
returns-in-Refused c = λ f. rw c.in-Refused.is

pub returns-in-More : goal.returns-in-More
unfolding to_come
returns-in-More c = λ f. rw c.in-More.is (cc)
