-- The checks on settings come first; where they pass, the rest is the start whose settings are checked.
use mathlib.Core.Path.{sym, ◌∙◌}
use Rattle.memory.proofs.Laws.{exit}
use Rattle.settings.proofs.CheckLaws.{settings-refuse, settings-pass}
use Rattle.start.proofs.StartLaws.{settings-refused, settings-passed}
use Rattle.start.proofs.read_start.Goals as goal

pub returns-in_err-check_settings : goal.returns-in_err-check_settings
returns-in_err-check_settings c =
    rw (exit _ c.from_residual.ensures.1)
    (sym (settings-refused _ _ _ (settings-refuse _ _ c.check_settings.ensures 0 _ c.in_err-check_settings.was)))

pub returns : goal.returns
returns c =
    c.read_main.ensures
    ∙ sym (settings-passed _ _ _ (settings-pass _ _ c.check_settings.ensures 0 _ c.in_ok-check_settings.was))
