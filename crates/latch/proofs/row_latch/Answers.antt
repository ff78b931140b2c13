-- The parts come in the order of the walk; what is told is then what the drawing makes of the latch.
use mathlib.Core.Path.{◌≡◌, refl, ◌∙◌}
use Rattle.blocks.specs.RowBlock.{segments_of}
use Rattle.layout.specs.Answers.{overlay_of}
use Rattle.layout.proofs.LayoutLaws.{whole-all}
use Rattle.latch.specs.declared.LatchEffect.TheVariants.{Unclear}
use Rattle.latch.specs.Latch.{over_row, over_parts}
use Rattle.latch.proofs.LatchLaws.{row_ends}
use Rattle.latch.proofs.row_latch.Goals as goal

pub returns-then-fill : goal.returns-then-fill
unfolding over_row
returns-then-fill c =
    let a = c.args in
    let o = overlay_of a.settings.linear a.overlay a.window.now in
    let gs = segments_of a.settings.linear a.count a.back.now in
    let told : Unclear ≡ over_row a.settings a.mem.now a.fill o gs =
    rw c.if-fill.true in
    record { value = told; as_drawn = (row_ends a.settings a.mem.now a.fill o gs told).1 }

pub returns-in-None : goal.returns-in-None
unfolding over_row over_parts
returns-in-None c =
    let a = c.args in
    let o = overlay_of a.settings.linear a.overlay a.window.now in
    let gs = segments_of a.settings.linear a.count a.back.now in
    let told : c.side_latch.result ≡ over_row a.settings a.mem.now a.fill o gs =
    rw (c.if-fill.false, c.in-None.is) (rw whole-all at c.side_latch.ensures) in
    record { value = told; as_drawn = (row_ends a.settings a.mem.now a.fill o gs told).1 }

pub returns-in-Some : goal.returns-in-Some
unfolding over_row over_parts
returns-in-Some c =
    let a = c.args in
    let o = overlay_of a.settings.linear a.overlay a.window.now in
    let gs = segments_of a.settings.linear a.count a.back.now in
    let told : c.side_latch-in-Some.result ≡ over_row a.settings a.mem.now a.fill o gs =
    rw (c.if-fill.false, c.in-Some.is)
    (c.side_latch-in-Some.ensures ∙ rw (c.side_latch-within.ensures, c.side_latch-before.ensures, whole-all) refl) in
    record { value = told; as_drawn = (row_ends a.settings a.mem.now a.fill o gs told).1 }
