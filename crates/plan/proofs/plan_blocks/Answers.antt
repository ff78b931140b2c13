-- The blocks of a row are read one after the other, as the rule says; 167 words at most, so the sums fit.
use mathlib.Core.Path.{sym, ◌∙◌}
use native.Mathlib.Omega.{arith}
use Rattle.memory.proofs.Laws.{exit}
use Rattle.state.proofs.StateLaws.{numbered}
use Rattle.plan.proofs.PlanLaws.{window-refused, background-refused, overlay-refused, edges-off, edges-on, plan-words}
use Rattle.plan.proofs.plan_blocks.Goals as goal

pub due_window-requires : goal.due_window-requires
due_window-requires c = numbered _ c.requires.0

-- the words of the window block, of the row block with its redefinition, and of the window row block
pub overflow_add-result : goal.overflow_add-result
overflow_add-result c =
    let o = sym (rw c.in_ok-overlay.was at c.overlay_row.ensures) in
    let g = sym (rw c.in_ok-block.was at c.background_row.ensures) in
    let w = sym (rw c.in_ok-window.was at c.due_window.ensures) in
    omega (arith, plan-words _ c.args.settings c.args.fields w g o (λ i. (c.type_inv.mem i).fits) c.requires.0)

pub overflow_add-result-then-edges_fit : goal.overflow_add-result-then-edges_fit
overflow_add-result-then-edges_fit c =
    let o = sym (rw c.in_ok-overlay.was at c.overlay_row.ensures) in
    let g = sym (rw c.in_ok-block.was at c.background_row.ensures) in
    let w = sym (rw c.in_ok-window.was at c.due_window.ensures) in
    omega (arith, plan-words _ c.args.settings c.args.fields w g o (λ i. (c.type_inv.mem i).fits) c.requires.0)

pub returns-then-edges_fit : goal.returns-then-edges_fit
returns-then-edges_fit c =
    let o = sym (rw c.in_ok-overlay.was at c.overlay_row.ensures) in
    let g = sym (rw c.in_ok-block.was at c.background_row.ensures) in
    let w = sym (rw c.in_ok-window.was at c.due_window.ensures) in
    rw (c.lines_taken.ensures, c.next_fields-next.ensures)
    (sym (edges-on _ _ _ w g o (sym (c.edges_fit.ensures _) ∙ c.if-edges_fit.true)))

pub returns-else-edges_fit : goal.returns-else-edges_fit
returns-else-edges_fit c =
    let o = sym (rw c.in_ok-overlay.was at c.overlay_row.ensures) in
    let g = sym (rw c.in_ok-block.was at c.background_row.ensures) in
    let w = sym (rw c.in_ok-window.was at c.due_window.ensures) in
    rw c.refused.ensures (sym (edges-off _ _ _ w g o (sym (c.edges_fit.ensures _) ∙ c.if-edges_fit.false)))

pub returns-in_err-overlay : goal.returns-in_err-overlay
returns-in_err-overlay c =
    let g = sym (rw c.in_ok-block.was at c.background_row.ensures) in
    let w = sym (rw c.in_ok-window.was at c.due_window.ensures) in
    rw (exit _ c.from_residual-in_err-overlay.ensures.1) (sym (overlay-refused _ _ _ w g (sym (rw c.in_err-overlay.was at c.overlay_row.ensures))))

pub returns-in_err-block : goal.returns-in_err-block
returns-in_err-block c =
    let w = sym (rw c.in_ok-window.was at c.due_window.ensures) in
    rw (exit _ c.from_residual-in_err-block.ensures.1) (sym (background-refused _ _ _ w (sym (rw c.in_err-block.was at c.background_row.ensures))))

pub returns-in_err-window : goal.returns-in_err-window
returns-in_err-window c =
    rw (exit _ c.from_residual.ensures.1) (sym (window-refused _ _ _ (sym (rw c.in_err-window.was at c.due_window.ensures))))
