-- The window in hand is the overlay where the row is one of its rows; elsewhere nothing is read.
use mathlib.Core.Path.{sym, ◌∙◌}
use Rattle.memory.proofs.Laws.{run-done}
use Rattle.layout.specs.Overlay.{overlaid}
use Rattle.layout.proofs.overlay.overlay_row.Goals as goal

-- The window in hand is the overlay where the row is one of its rows; elsewhere nothing is read.
pub returns-in-None : goal.returns-in-None
unfolding overlaid
returns-in-None c = rw c.in-None.is (sym (run-done _ _ _))

pub returns-then-on_rows : goal.returns-then-on_rows
unfolding overlaid
returns-then-on_rows c =
    rw (c.in-Some.is, sym c.on_rows.ensures ∙ c.if-on_rows.true) c.window_row.ensures

pub returns-else-on_rows : goal.returns-else-on_rows
unfolding overlaid
returns-else-on_rows c =
    rw (c.in-Some.is, sym c.on_rows.ensures ∙ c.if-on_rows.false) (sym (run-done _ _ _))
