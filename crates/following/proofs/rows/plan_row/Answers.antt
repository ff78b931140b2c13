-- Checks 8 and 11 of a window are met where there is a plan.
use Rattle.following.proofs.RowLaws.{narrow}
use Rattle.following.proofs.rows.plan_row.Goals as goal

pub returns-clause-narrow : goal.returns-clause-narrow
returns-clause-narrow c = narrow _ _ (λ i. (c.type_inv.mem i).fits) _ _ _ _ c.plan_state.ensures
