-- Each turn passes one segment, drawn where it is on the side: what is left to draw from here is the whole side.
use mathlib.Core.Path.{sym, ◌∙◌}
use Prim.Native.Nat.{◌<◌}
use native.Mathlib.Omega.{arith}
use Rattle.memory.proofs.Laws.{exit}
use Rattle.blocks.proofs.BlockLaws.{segments-all}
use Rattle.layout.proofs.LayoutLaws.{width-byte}
use Rattle.cells.specs.Cells.{segment}
use Rattle.codes.specs.Answers.{so_far}
use Rattle.cells.proofs.SideLaws.{side-total, side-none-total, side-given, side-refused, side-none}
use Rattle.cells.proofs.draw_side.Goals as goal

pub loop-i-init : goal.loop-i-init
loop-i-init c = (omega arith, omega arith, rw segments-all, rw segments-all)

pub draw_chosen-requires : goal.draw_chosen-requires
draw_chosen-requires c =
    let a = c.args in
    let l = c.loop-i in
    let t = side-total 0 a.mem.now a.stretch.settings.linear a.stretch.settings.hidden a.stretch.side a.count a.segments.now l.at l.i (omega arith) in
    (rw (c.on_side-chosen.ensures, c.width-w.ensures, c.segment_at-g.ensures) (omega arith), omega arith)

pub returns-in_err-drawn : goal.returns-in_err-drawn
returns-in_err-drawn c =
    let a = c.args in
    let l = c.loop-i in
    rw (exit _ c.from_residual.ensures.1) (record {
      reached = tt;
      cells_after = sym (l.invariant.3
          ∙ side-refused l.read a.mem.now a.stretch.settings.linear a.stretch.settings.hidden a.stretch.side a.count a.segments.now l.at l.i
          (segment a.stretch.settings a.stretch.fill a.stretch.source) (so_far l.current l.cells) (omega arith)
          (sym (rw (c.on_side-chosen.ensures, c.width-w.ensures, c.segment_at-g.ensures) at c.in_err-drawn.ensures.cells_after)));
    })

pub overflow_add-at : goal.overflow_add-at
overflow_add-at c =
    let small : c.args.count.number < 256 = c.well_formed.1.1.1.0.1.1.0.1 in
    let g = c.segment_at-g in
    omega (arith, width-byte c.args.stretch.settings.hidden g.result g.type_inv.1.1.1.1.0.1 g.type_inv.1.1.1.1.1.0.1)

pub loop-i-preserved : goal.loop-i-preserved
loop-i-preserved c =
    let a = c.args in
    let l = c.loop-i in
    let g = c.segment_at-g in
    let h = rw (c.on_side-chosen.ensures, c.width-w.ensures, c.segment_at-g.ensures) at c.in_ok-drawn.ensures.reached in
    let t = side-total 0 a.mem.now a.stretch.settings.linear a.stretch.settings.hidden a.stretch.side a.count a.segments.now l.at l.i (omega arith) in
    rw c.anew-current.ensures (
      omega (arith, width-byte a.stretch.settings.hidden g.result g.type_inv.1.1.1.1.0.1 g.type_inv.1.1.1.1.1.0.1),
      omega arith,
      rw (c.width-w.ensures, c.segment_at-g.ensures) (omega arith),
      l.invariant.3
          ∙ side-given l.read a.mem.now a.stretch.settings.linear a.stretch.settings.hidden a.stretch.side a.count a.segments.now l.at l.i
          (segment a.stretch.settings a.stretch.fill a.stretch.source) (so_far l.current l.cells) (omega arith)
          (sym (rw (c.on_side-chosen.ensures, c.width-w.ensures, c.segment_at-g.ensures) at c.in_ok-drawn.ensures.cells_after))
          ∙ rw (c.width-w.ensures, c.segment_at-g.ensures),
    )

pub returns : goal.returns
returns c =
    let a = c.args in
    let l = c.loop-i in
    let z = side-none-total 0 a.mem.now a.stretch.settings.linear a.stretch.settings.hidden a.stretch.side a.count a.segments.now l.at l.i (omega arith) in record {
      reached = (omega arith, omega arith);
      cells_after = sym (l.invariant.3
          ∙ side-none l.read a.mem.now a.stretch.settings.linear a.stretch.settings.hidden a.stretch.side a.count a.segments.now l.at l.i
          (segment a.stretch.settings a.stretch.fill a.stretch.source) (so_far l.current l.cells) (omega arith));
    }
