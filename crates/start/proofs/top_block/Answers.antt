-- The register's pointer; null it is refused 6, else its main block is read, and refused 14 where M4 enables a window's scroll.
use mathlib.Core.Path.{sym, ◌∙◌}
use Rattle.memory.proofs.Laws.{exit}
use Rattle.start.proofs.StartLaws.{top-null, top-absent, top-of-window, top_read}
use Rattle.start.proofs.top_block.Goals as goal

pub returns-then-p-eq0 : goal.returns-then-p-eq0
returns-then-p-eq0 c =
    let t = rw c.pointer_of-p.ensures at c.if-p-eq0.true in
    rw c.fault_of.ensures (sym (top-null _ _ _ t))

pub returns-in_err-main : goal.returns-in_err-main
returns-in_err-main c =
    let p = c.pointer_of-p.ensures in
    let t = rw p at c.if-p-eq0.false in
    let b = sym (rw (c.in_err-main.was, p) at c.main_block.ensures) in
    rw (exit _ c.from_residual.ensures.1) (sym (top-absent _ _ _ t b))

pub returns-then-scrolls_window : goal.returns-then-scrolls_window
returns-then-scrolls_window c =
    let p = c.pointer_of-p.ensures in
    let t = rw p at c.if-p-eq0.false in
    let b = sym (rw (c.in_ok-main.was, p) at c.main_block.ensures) in
    rw c.fault_of-then-scrolls_window.ensures (sym (top-of-window _ _ _ t b (sym c.scrolls_window.ensures ∙ c.if-scrolls_window.true)))

pub returns-else-scrolls_window : goal.returns-else-scrolls_window
returns-else-scrolls_window c =
    let p = c.pointer_of-p.ensures in
    let t = rw p at c.if-p-eq0.false in
    let b = sym (rw (c.in_ok-main.was, p) at c.main_block.ensures) in
    sym (top_read _ _ _ t b (sym c.scrolls_window.ensures ∙ c.if-scrolls_window.false))
