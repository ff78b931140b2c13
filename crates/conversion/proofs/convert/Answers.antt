-- The checks in their order; then the frame is followed from marks that are all 0, and its pointers are turned once it is ended.
use mathlib.Core.Path.{sym, ◌∙◌}
use Rattle.memory.proofs.Laws.{exit}
use Rattle.conversion.proofs.CallLaws.{other-number, not_good, is-linear, was-stopped, was-ended}
use Rattle.conversion.proofs.convert.Goals as goal

pub returns-then-marks-mem : goal.returns-then-marks-mem
returns-then-marks-mem c = rw c.refused.ensures (other-number _ _ _ _ c.if-marks-mem.true)

pub returns-then-not-is_good : goal.returns-then-not-is_good
returns-then-not-is_good c = rw c.refused-then-not-is_good.ensures (not_good _ _ _ _ c.if-marks-mem.false (sym c.is_good.ensures ∙ c.if-not-is_good.true))

pub returns-then-settings : goal.returns-then-settings
returns-then-settings c = rw c.refused-then-settings.ensures (is-linear _ _ _ _ c.if-marks-mem.false (sym c.is_good.ensures ∙ c.if-not-is_good.false) c.if-settings.true)

pub returns-in_err-follow : goal.returns-in_err-follow
returns-in_err-follow c =
    rw (exit _ c.from_residual.ensures.1) (was-stopped _ _ _ _ c.if-marks-mem.false (sym c.is_good.ensures ∙ c.if-not-is_good.false) c.if-settings.false
    (rw c.in_err-follow.was at c.follow.ensures))

pub returns : goal.returns
returns c =
    rw (c.turned_settings.ensures, c.register_changes.ensures.value, c.turn-words.ensures.1, c.turn-words.ensures.0)
    (was-ended _ _ _ _ c.if-marks-mem.false (sym c.is_good.ensures ∙ c.if-not-is_good.false) c.if-settings.false
    (rw c.in_ok-follow.was at c.follow.ensures))
