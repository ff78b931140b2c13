-- TOW is the register's pointer; the first window is read, or the start is refused as its reading is.
use mathlib.Core.Path.{sym}
use native.Mathlib.Omega.{arith}
use Rattle.memory.proofs.Laws.{exit}
use Rattle.memory.proofs.ReadBounds.{reads-given}
use Rattle.windows.proofs.WindowBounds.{window-reads}
use Rattle.windows.specs.Window.{first_window}
use Rattle.start.proofs.StartLaws.{window-refused, window-started}
use Rattle.start.proofs.read_window.Goals as goal

pub overflow_add-result : goal.overflow_add-result
unfolding first_window
overflow_add-result c =
    omega (arith, (reads-given 0 _ (λ i. (c.type_inv.mem i).fits) (window-reads _ 0 0 _ (omega arith)) (sym (rw c.in_ok-window.was at c.first_window.ensures))).0)

pub returns-in_err-window : goal.returns-in_err-window
returns-in_err-window c =
    rw (exit _ c.from_residual.ensures.1)
    (sym (window-refused _ _ _ _ _ (sym (rw (c.in_err-window.was, c.pointer_of-tow.ensures) at c.first_window.ensures))))

pub returns : goal.returns
returns c =
    rw c.first_fields-fields.ensures
    (sym (window-started _ _ _ _ _ (sym (rw (c.in_ok-window.was, c.pointer_of-tow.ensures) at c.first_window.ensures))))
