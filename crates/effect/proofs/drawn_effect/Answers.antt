use Rattle.std.proofs.Common.{None}
use mathlib.Core.Path.{◌∙◌}
use Rattle.effect.specs.Effect.{outcome_for, effect_call}
use Rattle.effect.proofs.drawn_effect.Goals as goal

pub returns : goal.returns
unfolding effect_call outcome_for
returns c =
    let clear = c.draw_from-clear.ensures in
    let set = c.draw_from-set.ensures in
    c.effect_of.ensures ∙ rw (c.draw_from-clear.ensures.result_value, c.draw_from-set.ensures.result_value, c.draw_from-clear.ensures.x_value, c.draw_from-set.ensures.x_value None)
