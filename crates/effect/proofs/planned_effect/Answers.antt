-- What is told of the latch is as the row's cells would be drawn, from either latch.
use mathlib.Core.Path.{◌∙◌}
use Rattle.plan.proofs.PlanPassing.{plan-passing}
use Rattle.effect.proofs.EffectLaws.{kept-effect, latched-effect}
use Rattle.effect.proofs.planned_effect.Goals as goal
use Rattle.effect.proofs.planned_effect.Goals.{in-Kept, in-Latched}

pub code_settings-code-requires : goal.code_settings-code-requires
code_settings-code-requires c = (plan-passing _ _ _ c.requires).straight

pub returns : goal.returns
returns c =
    let a = c.args in
    elim c.match-row_latch.branch [
      | in-Kept w ↦ c.same_parts.ensures
          ∙ rw w.part-is (kept-effect a.settings a.mem.now a.fields c.requires (rw (w.in-Kept.is, c.code_settings-code.ensures) at c.row_latch.ensures.as_drawn))
      | in-Latched w ↦ c.same_parts.ensures
          ∙ rw w.part-is (latched-effect a.settings a.mem.now a.fields c.requires _ (rw (w.in-Latched.is, c.code_settings-code.ensures) at c.row_latch.ensures.as_drawn))
    ]
