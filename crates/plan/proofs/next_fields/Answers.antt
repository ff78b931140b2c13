-- Each field is the rule's; the lines left are fewer by those taken.
use Rattle.plan.specs.Plan.{next_fields}
use Rattle.plan.proofs.next_fields.Goals as goal

pub returns : goal.returns
unfolding next_fields
returns c = rw c.lines_taken.ensures
