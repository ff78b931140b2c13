-- The checks on settings come first; where they pass, the rest is the plan of a row whose settings are checked.
use mathlib.Core.Path.{sym, ◌∙◌}
use mathlib.Core.List.{[]}
use Rattle.memory.proofs.Laws.{exit}
use Rattle.settings.proofs.CheckLaws.{settings-refuse, settings-pass, given-passing}
use Rattle.plan.proofs.PlanLaws.{settings-refused, settings-passed}
use Rattle.plan.proofs.plan_row.Goals as goal

pub returns-in_err-check_settings : goal.returns-in_err-check_settings
returns-in_err-check_settings c =
    rw (exit _ c.from_residual.ensures.1) (sym (settings-refused _ _ _ (settings-refuse _ _ c.check_settings.ensures 0 _ c.in_err-check_settings.was)))

pub written_linear-linear-requires : goal.written_linear-linear-requires
written_linear-linear-requires c =
    (given-passing _ 0 [] (settings-pass _ _ c.check_settings.ensures 0 [] c.in_ok-check_settings.was)).straight

pub returns : goal.returns
returns c =
    rw c.written_linear-linear.ensures at c.plan_state.ensures
    ∙ sym (settings-passed _ _ _ (settings-pass _ _ c.check_settings.ensures 0 _ c.in_ok-check_settings.was))
