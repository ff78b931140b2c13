-- A number at most the last row is at most the least row, one more each.
use mathlib.Core.Path.{sym}
use borrow.Author.Tests.{lt-ltb, le-ltb}
use Rattle.memory.proofs.Laws.{run-done}
use Rattle.windows.specs.Window.{due_window}
use Rattle.windows.proofs.due_window.Goals as goal

pub returns-in-None : goal.returns-in-None
unfolding due_window
returns-in-None c = rw c.in-None.is (sym (run-done _ _ _))

pub returns-then-w-row : goal.returns-then-w-row
unfolding due_window
returns-then-w-row c = rw (c.in-Some.is, lt-ltb _ _ c.if-w-row.true) c.window_at.ensures

pub returns-else-w-row : goal.returns-else-w-row
unfolding due_window
returns-else-w-row c = rw (c.in-Some.is, le-ltb _ _ c.if-w-row.false) (sym (run-done _ _ _))
