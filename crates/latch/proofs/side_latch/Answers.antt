-- Each turn passes one segment, told where it is on the side: what is left from here is the whole side.
use mathlib.Core.Path.{sym, ◌∙◌}
use native.Mathlib.Omega.{arith}
use Rattle.blocks.proofs.BlockLaws.{segments-all}
use Rattle.layout.proofs.LayoutLaws.{width-byte}
use Rattle.latch.proofs.RowLatchLaws.{side-more, side-none}
use Rattle.latch.proofs.side_latch.Goals as goal

pub loop-i-init : goal.loop-i-init
loop-i-init c = (omega arith, rw segments-all)

pub overflow_add-at : goal.overflow_add-at
overflow_add-at c =
    let g = c.segment_at-g in
    omega (arith, width-byte c.args.settings.hidden g.result g.type_inv.1.1.1.1.0.1 g.type_inv.1.1.1.1.1.0.1)

pub loop-i-preserved : goal.loop-i-preserved
loop-i-preserved c =
    let a = c.args in
    let l = c.loop-i in
    let g = c.segment_at-g in (
      omega (arith, width-byte a.settings.hidden g.result g.type_inv.1.1.1.1.0.1 g.type_inv.1.1.1.1.1.0.1),
      l.invariant.1
          ∙ side-more _ _ _ _ _ l.at l.i l.made (omega arith)
          ∙ rw (c.join-made.ensures, c.chosen_latch.ensures, c.on_side-chosen.ensures, c.width-w.ensures, g.ensures),
    )

pub returns : goal.returns
returns c =
    let l = c.loop-i in
    sym (l.invariant.1 ∙ side-none _ _ _ _ _ _ _ _ (omega arith))
