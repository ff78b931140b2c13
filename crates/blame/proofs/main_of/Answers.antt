-- The checks on settings come first; where they pass, the rest is the main block's.
use mathlib.Core.Path.{sym, ◌∙◌}
use Rattle.memory.proofs.Laws.{exit}
use Rattle.settings.proofs.CheckLaws.{settings-refuse, settings-pass}
use Rattle.blame.proofs.VerdictLaws.{settings-bad, settings-good}
use Rattle.blame.proofs.main_of.Goals as goal

pub returns-in_err-check_settings : goal.returns-in_err-check_settings
returns-in_err-check_settings c =
    rw (exit _ c.from_residual.ensures.1)
    (sym (settings-bad _ _ (settings-refuse _ _ c.check_settings.ensures 0 _ c.in_err-check_settings.was)))

pub returns : goal.returns
returns c =
    c.top_block.ensures
    ∙ sym (settings-good _ _ (settings-pass _ _ c.check_settings.ensures 0 _ c.in_ok-check_settings.was))
