-- The yes of `within` bounds each number, and that is what `effect_written` asks for.
use mathlib.Core.Path.{sym, ◌∙◌}
use Rattle.numbers.proofs.PlaceLaws.{all-within}
use Rattle.effects.proofs.decode.effect_in.Goals as goal

pub effect_written-requires : goal.effect_written-requires
effect_written-requires c = all-within _ _ (sym c.within.ensures ∙ c.if-within.true)
