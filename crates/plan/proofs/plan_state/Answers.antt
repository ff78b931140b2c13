-- Each check of the code is the rule's, in its order; past them the row is below 4095, and the blocks follow.
use mathlib.Core.Path.{sym, ◌∙◌}
use native.Mathlib.Omega.{arith}
use Rattle.state.proofs.StateLaws.{row_below}
use Rattle.plan.proofs.PlanLaws.{state-out, no_lines, all-checked}
use Rattle.plan.proofs.plan_state.Goals as goal

pub returns-then-not-in_range : goal.returns-then-not-in_range
returns-then-not-in_range c =
    let s = sym c.in_range.ensures ∙ c.if-not-in_range.true in
    rw c.refused.ensures (sym (state-out _ _ _ s))

pub returns-then-fields-eq0 : goal.returns-then-fields-eq0
returns-then-fields-eq0 c =
    let s = sym c.in_range.ensures ∙ c.if-not-in_range.false in
    rw c.refused-then-fields-eq0.ensures (sym (no_lines _ _ _ s c.if-fields-eq0.true))

pub plan_blocks-requires : goal.plan_blocks-requires
plan_blocks-requires c =
    let s = sym c.in_range.ensures ∙ c.if-not-in_range.false in
    (s, row_below _ s (omega arith))

pub returns : goal.returns
returns c =
    let s = sym c.in_range.ensures ∙ c.if-not-in_range.false in
    c.plan_blocks.ensures ∙ sym (all-checked _ _ _ s (omega arith))
