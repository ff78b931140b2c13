-- The main block of TOP is read or refused; once it is read, the window follows.
use mathlib.Core.Path.{sym, ◌∙◌}
use Rattle.memory.proofs.Laws.{exit}
use Rattle.start.proofs.StartLaws.{main-refused, main-read}
use Rattle.start.proofs.read_main.Goals as goal

pub returns-in_err-main : goal.returns-in_err-main
returns-in_err-main c =
    rw (exit _ c.from_residual.ensures.1) (sym (main-refused _ _ _ (sym (rw c.in_err-main.was at c.top_block.ensures))))

pub returns : goal.returns
returns c = c.read_window.ensures ∙ sym (main-read _ _ _ (sym (rw c.in_ok-main.was at c.top_block.ensures)))
