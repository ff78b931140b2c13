-- The checks on settings come first; where they pass, the rest is the call whose settings are checked.
use mathlib.Core.Path.{ap, sym, ◌∙◌}
use Rattle.memory.proofs.Laws.{exit, told-ok, told-err}
use Rattle.settings.proofs.CheckLaws.{settings-refuse, settings-pass}
use Rattle.scroll.specs.Scroll.{shift_answered, shift_call}
use Rattle.scroll.proofs.ShiftLaws.{settings-refused, settings-passed}
use Rattle.scroll.proofs.shift.Goals as goal

pub returns-in_err-told_in : goal.returns-in_err-told_in
unfolding shift_call
returns-in_err-told_in c =
    let k = told-err 0 _ (sym c.told_in.ensures ∙ c.in_err-told_in.was) in
    let x = settings-refuse _ _ c.check_settings.ensures 0 _ k.1 in
    rw (exit _ c.from_residual.ensures.1, k.2) (ap shift_answered (sym (settings-refused _ _ _ _ x)))

pub returns : goal.returns
unfolding shift_call
returns c =
    let x = settings-pass _ _ c.check_settings.ensures 0 _ (told-ok 0 _ (sym c.told_in.ensures ∙ c.in_ok-told_in.was)) in
    c.shift_from.ensures ∙ ap shift_answered (sym (settings-passed _ _ _ _ x))
