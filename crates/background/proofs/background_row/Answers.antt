-- Checks 9 and 10 are judged from the segments' measure, after the block and its redefinition.
use mathlib.Core.Path.{sym, ◌∙◌}
use Rattle.memory.proofs.Laws.{exit}
use Rattle.layout.proofs.OverlayLaws.{segments-unfit, segments-wide, segments-pass}
use Rattle.background.proofs.BackgroundLaws.{row-refused, row-checks}
use Rattle.background.proofs.background_row.Goals as goal

pub returns-then-not-m : goal.returns-then-not-m
returns-then-not-m c =
    let g = sym (rw c.in_ok-block.was at c.background_block.ensures) in
    rw c.blame.ensures
    (sym (row-checks _ _ _ g ∙ segments-unfit _ _ _ _ c.args.fields.next _ c.args.fields.next _ _ _ c.measure_segments-m.ensures c.if-not-m.true))

pub returns-then-m-gt132 : goal.returns-then-m-gt132
returns-then-m-gt132 c =
    let g = sym (rw c.in_ok-block.was at c.background_block.ensures) in
    rw c.blame-then-m-gt132.ensures
    (sym (row-checks _ _ _ g ∙ segments-wide _ _ _ _ c.args.fields.next _ c.args.fields.next _ _ _ c.measure_segments-m.ensures c.if-not-m.false c.if-m-gt132.true))

pub returns : goal.returns
returns c =
    let g = sym (rw c.in_ok-block.was at c.background_block.ensures) in
    sym (row-checks _ _ _ g ∙ segments-pass _ _ _ _ c.args.fields.next _ c.args.fields.next _ _ _ c.measure_segments-m.ensures c.if-not-m.false c.if-m-gt132.false)

pub returns-in_err-block : goal.returns-in_err-block
returns-in_err-block c =
    rw (exit _ c.from_residual.ensures.1) (sym (row-refused _ _ _ (sym (rw c.in_err-block.was at c.background_block.ensures))))
