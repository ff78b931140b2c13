-- Disabled, the scroll is still; enabled, the row's lines are read and the offset goes on from the last one.
use mathlib.Core.Path.{ap, sym, ◌∙◌}
use Rattle.memory.proofs.Laws.{exit, told-ok, told-err}
use Rattle.scroll.specs.Scroll.{shift_answered}
use Rattle.scroll.proofs.ShiftLaws.{disabled, row-refused, row_read, m4-lines, moved_lines}
use Rattle.scroll.proofs.shift_by.Goals as goal

pub returns-then-not-is_enabled : goal.returns-then-not-is_enabled
returns-then-not-is_enabled c =
    let h = sym c.is_enabled.ensures ∙ c.if-not-is_enabled.true in
    rw (c.shifted.ensures, c.is_up-up.ensures) (sym (disabled _ _ _ _ _ h))

pub moved-now_moved-requires : goal.moved-now_moved-requires
moved-now_moved-requires c = (rw c.rate_of.ensures (m4-lines _), c.from_last-last_moved.ensures.1)

pub reached-requires : goal.reached-requires
reached-requires c = rw c.moved-now_moved.ensures (moved_lines _ _ (rw c.rate_of.ensures (m4-lines _)) c.from_last-last_moved.ensures.1.lines)

pub returns-in_err-lines : goal.returns-in_err-lines
returns-in_err-lines c =
    let h = sym c.is_enabled.ensures ∙ c.if-not-is_enabled.false in
    let k = told-err 0 _ (sym c.told_in.ensures ∙ c.in_err-lines.was) in
    let e = sym (rw k.1 at c.edge_lines.ensures) in
    rw (exit _ c.from_residual.ensures.1, k.2) (ap shift_answered (sym (row-refused _ _ _ _ _ h (sym e))))

pub returns : goal.returns
returns c =
    let h = sym c.is_enabled.ensures ∙ c.if-not-is_enabled.false in
    let e = rw (told-ok 0 _ (sym c.told_in.ensures ∙ c.in_ok-lines.was)) at c.edge_lines.ensures in
    rw (c.reached.ensures, c.moved-now_moved.ensures, c.rate_of.ensures, c.from_last-last_moved.ensures.0, c.is_up-up.ensures) (sym (row_read _ _ _ _ _ h e))
