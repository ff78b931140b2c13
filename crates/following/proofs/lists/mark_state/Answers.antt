-- A state that checks 3 and 4 refuse asks for nothing.
use mathlib.Core.Path.{sym, ◌∙◌}
use native.Mathlib.Omega.{arith}
use Rattle.marking.proofs.MarkLaws.{trails-still, trails-so}
use Rattle.following.proofs.ListLaws.{state-out, no_lines, state-in}
use Rattle.following.proofs.lists.mark_state.Goals as goal

pub returns-then-not-in_range : goal.returns-then-not-in_range
returns-then-not-in_range c = trails-still _ (state-out _ _ _ _ _ (sym c.in_range.ensures ∙ c.if-not-in_range.true))

pub returns-then-fields-eq0 : goal.returns-then-fields-eq0
returns-then-fields-eq0 c = trails-still _ (no_lines _ _ _ _ _ (sym c.in_range.ensures ∙ c.if-not-in_range.false) c.if-fields-eq0.true)

pub returns : goal.returns
returns c =
    trails-so c.mark_blocks.ensures (λ e. state-in _ _ _ _ _ (sym c.in_range.ensures ∙ c.if-not-in_range.false) (omega arith) ∙ e)
