-- Checks 9 and 11 are judged from the segments' measure, after the window row block.
use mathlib.Core.Path.{sym, ◌∙◌}
use Rattle.memory.proofs.Laws.{exit}
use Rattle.memory.specs.Reading.{nobody}
use Rattle.layout.proofs.OverlayLaws.{segments-unfit, segments-wide, segments-pass, window-refused, window-checks}
use Rattle.layout.proofs.overlay.window_row.Goals as goal

-- Checks 9 and 11 are judged from the segments' measure, after the window row block.
pub returns-then-not-m : goal.returns-then-not-m
returns-then-not-m c =
    let b = sym (rw c.in_ok-b.was at c.window_row_block.ensures) in
    rw c.blame.ensures
    (sym (window-checks _ _ _ b ∙ segments-unfit _ _ _ _ c.args.w.rows _ nobody _ _ _ c.measure_segments-m.ensures c.if-not-m.true))

pub returns-then-columns-m : goal.returns-then-columns-m
returns-then-columns-m c =
    let b = sym (rw c.in_ok-b.was at c.window_row_block.ensures) in
    let l = rw c.columns.ensures at c.if-columns-m.true in
    rw c.fault_of.ensures
    (sym (window-checks _ _ _ b ∙ segments-wide _ _ _ _ c.args.w.rows _ nobody _ _ _ c.measure_segments-m.ensures c.if-not-m.false l))

pub returns : goal.returns
returns c =
    let b = sym (rw c.in_ok-b.was at c.window_row_block.ensures) in
    let l = rw c.columns.ensures at c.if-columns-m.false in
    rw c.with_rows.ensures
    (sym (window-checks _ _ _ b ∙ segments-pass _ _ _ _ c.args.w.rows _ nobody _ _ _ c.measure_segments-m.ensures c.if-not-m.false l))

pub returns-in_err-b : goal.returns-in_err-b
returns-in_err-b c =
    rw (exit _ c.from_residual.ensures.1) (sym (window-refused _ _ _ (sym (rw c.in_err-b.was at c.window_row_block.ensures))))
