-- The first window is number 0, and any row may be its first.
use Rattle.windows.specs.Window.{first_window}
use Rattle.windows.proofs.first_window.Goals as goal

pub returns : goal.returns
unfolding first_window
returns c = c.window_at.ensures
