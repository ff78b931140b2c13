-- A row is refused as its plan is, or drawn from it.
use mathlib.Core.Path.{refl, ap, sym, ◌∙◌}
use lib.Dec.{lit<}
use Rattle.memory.proofs.Laws.{exit, told-err}
use Rattle.row.specs.Row.{answered}
use Rattle.row.proofs.RowLaws.{plan-refused}
use Rattle.listed.proofs.row_at.Goals as goal

pub returns-in_err-p : goal.returns-in_err-p
returns-in_err-p c =
    let a = c.args in
    let k = told-err _ _ (sym c.told_in.ensures ∙ c.in_err-p.was) in
    rw (exit _ c.from_residual.ensures.1, k.2) (record {
      few_words = lit< tt;
      buffer_after = ap (answered a.settings a.state.fields a.buffer.now) (plan-refused a.settings a.mem.now a.state (rw k.1 at c.plan_row-plan.ensures));
      list_after = refl;
    })
