-- Check 3, then the hard top's main block, then the rest.
use mathlib.Core.Path.{ap, sym, ◌∙◌}
use Rattle.memory.proofs.Laws.{exit, told-ok, told-err}
use Rattle.scroll.specs.Scroll.{shift_answered}
use Rattle.scroll.proofs.ShiftLaws.{out_of_range, top-refused, top_read}
use Rattle.scroll.proofs.shift_from.Goals as goal

pub returns-then-not-in_range : goal.returns-then-not-in_range
returns-then-not-in_range c =
    let h = sym c.in_range.ensures ∙ c.if-not-in_range.true in
    rw c.refused.ensures (ap shift_answered (sym (out_of_range _ _ _ _ h)))

pub returns-in_err-hard : goal.returns-in_err-hard
returns-in_err-hard c =
    let h = sym c.in_range.ensures ∙ c.if-not-in_range.false in
    let k = told-err 0 _ (sym c.told_in.ensures ∙ c.in_err-hard.was) in
    let e = sym (rw k.1 at c.top_block.ensures) in
    rw (exit _ c.from_residual.ensures.1, k.2) (ap shift_answered (sym (top-refused _ _ _ _ h e)))

pub returns : goal.returns
returns c =
    let h = sym c.in_range.ensures ∙ c.if-not-in_range.false in
    let e = sym (rw (told-ok 0 _ (sym c.told_in.ensures ∙ c.in_ok-hard.was)) at c.top_block.ensures) in
    c.shift_by.ensures ∙ sym (top_read _ _ _ _ h e)
