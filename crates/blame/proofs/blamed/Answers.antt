-- The test is the definition's.
use mathlib.Core.Path.{sym, ◌∙◌}
use Rattle.blame.specs.Blame.{blamed}
use Rattle.blame.proofs.blamed.Goals as goal

pub returns-then-of_window : goal.returns-then-of_window
unfolding blamed
returns-then-of_window c = rw (sym c.of_window.ensures ∙ c.if-of_window.true)

pub returns-else-of_window : goal.returns-else-of_window
unfolding blamed
returns-else-of_window c = rw (sym c.of_window.ensures ∙ c.if-of_window.false)
