-- Each turn passes one segment, drawn where it is on the side: what is left to draw from here is the whole side, and is sure.
use mathlib.Core.Path.{refl, ap, ◌∙◌}
use mathlib.Core.Bool.{true}
use Prim.Native.Nat.{◌≤◌, ◌<◌}
use native.Mathlib.Omega.{arith}
use Rattle.memory.specs.Reading.{each}
use Rattle.blocks.specs.RowBlock.{segments_of}
use Rattle.blocks.proofs.BlockLaws.{segments-all}
use Rattle.layout.specs.Layout.{segments_on}
use Rattle.layout.proofs.LayoutLaws.{width-byte}
use Rattle.codes.specs.declared.CodeSettings.{CodeSettings}
use Rattle.codes.specs.Answers.{so_far}
use Rattle.cells.specs.Cells.{segment}
use Rattle.cells.proofs.SideLaws.{side-total, side-none-total}
use Rattle.noting.specs.Noting.{noting}
use Rattle.sure.proofs.WalkLaws.{linear-settings, sure-more, side-more, side-none}
use Rattle.sure.proofs.draw_side.Goals as goal

pub loop-i-init : goal.loop-i-init
loop-i-init c =
    let p = c.requires in
    (omega arith, omega arith, rw segments-all (rw p.words_bound.1 at p.segments_value), rw segments-all, rw segments-all)

pub draw_chosen-drawn-requires : goal.draw_chosen-drawn-requires
draw_chosen-drawn-requires c =
    let a = c.args in
    let p = c.requires in
    let l = c.loop-i in
    let less : l.i < a.count.number = omega arith in
    let small : a.count.number < 256 = c.well_formed.1.1.1.0.1.1.0.1 in
    let room = rw p.words_bound.1 at p.segments_in_bounds in
    let g = c.segment_at-g.ensures in
    let h = a.stretch.settings.hidden in
    let t = side-total 0 a.mem.now true h a.stretch.side a.count a.segments.now l.at l.i less in
    let s = sure-more a.stretch.fill.flag a.mem.now true a.count a.segments.now l.i less l.invariant.2 in (
      rw (c.on_side-chosen.ensures, c.width-w.ensures, g) (omega arith),
      omega arith,
      refl,
      rw g s.0,
    )

pub overflow_add-at : goal.overflow_add-at
overflow_add-at c =
    let small : c.args.count.number < 256 = c.well_formed.1.1.1.0.1.1.0.1 in
    let g = c.segment_at-g in
    let byte = width-byte c.args.stretch.settings.hidden g.result g.type_inv.1.1.1.1.0.1 g.type_inv.1.1.1.1.1.0.1 in
    let w = c.width-w.ensures in
    omega arith

pub loop-i-preserved : goal.loop-i-preserved
loop-i-preserved c =
    let l = c.loop-i in
    let a = c.args in
    let less : l.i < a.count.number = omega arith in
    let g = c.segment_at-g in
    let w = c.width-w.ensures in
    let on = c.on_side-chosen.ensures in
    let h = rw (on, w, g.ensures) at c.draw_chosen-drawn.ensures.column_value in
    let hidden = a.stretch.settings.hidden in
    let σ : CodeSettings = record { linear = true; hidden = hidden; flag = a.stretch.settings.flag } in
    let byte = width-byte hidden g.result g.type_inv.1.1.1.1.0.1 g.type_inv.1.1.1.1.1.0.1 in
    let t = side-total 0 a.mem.now true hidden a.stretch.side a.count a.segments.now l.at l.i less in
    rw c.anew-current.ensures (
      omega arith,
      omega arith,
      (sure-more a.stretch.fill.flag a.mem.now true a.count a.segments.now l.i less l.invariant.2).1,
      rw (w, g.ensures) (omega arith),
      l.invariant.4
          ∙ side-more l.read a.mem.now l.list true hidden a.stretch.side a.count a.segments.now l.at l.i
          (segment σ a.stretch.fill a.stretch.source) (so_far l.current l.cells) less
          (rw (on, w, g.ensures) at c.draw_chosen-drawn.ensures.cells_value)
          ∙ rw (w, g.ensures),
    )

pub returns : goal.returns
returns c =
    let a = c.args in
    let l = c.loop-i in
    let linear = c.requires.words_bound.1 in
    let hidden = a.stretch.settings.hidden in
    let σ : CodeSettings = record { linear = true; hidden = hidden; flag = a.stretch.settings.flag } in
    let past : a.count.number ≤ l.i = omega arith in
    let z = side-none-total 0 a.mem.now true hidden a.stretch.side a.count a.segments.now l.at l.i past in record {
      column_value = (rw linear (omega arith), omega arith);
      cells_value = ap (λ (s : CodeSettings). noting a.words a.mem.now a.list.now
          (each (segment s a.stretch.fill a.stretch.source)
          (segments_on a.stretch.side s.hidden 0 (segments_of s.linear a.count a.segments.now))
          (so_far a.pen a.cells.now)))
          (linear-settings a.stretch.settings linear)
          ∙ l.invariant.4
          ∙ side-none l.read a.mem.now l.list true hidden a.stretch.side a.count a.segments.now l.at l.i
          (segment σ a.stretch.fill a.stretch.source) (so_far l.current l.cells) past;
    }
