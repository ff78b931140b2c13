-- A row has its plan's refusal for either latch, or the effect of its plan.
use mathlib.Core.Path.{◌∙◌}
use Rattle.effect.proofs.EffectLaws.{refused-effect}
use Rattle.effect.proofs.row_effect.Goals as goal

pub returns-in-Err : goal.returns-in-Err
returns-in-Err c =
    let a = c.args in
    c.refused_effect.ensures
    ∙ refused-effect a.settings a.mem.now a.fields (rw c.in-Err.is at c.plan_row.ensures)
