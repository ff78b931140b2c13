-- A row is refused as its plan is, or walked from it.
use mathlib.Core.Path.{ap}
use Rattle.memory.proofs.Laws.{exit}
use Rattle.row.proofs.RowLaws.{plan-refused}
use Rattle.blame.specs.Answers.{walked}
use Rattle.blame.proofs.walk_row.Goals as goal

pub returns-in_err-p : goal.returns-in_err-p
returns-in_err-p c =
    let a = c.args in
    rw (exit _ c.from_residual.ensures.1) (ap walked (plan-refused a.settings a.mem.now a.state (rw c.in_err-p.was at c.plan_row.ensures)))
