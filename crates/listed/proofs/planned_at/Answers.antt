-- A refused row was not sure, and leaves the list; an accepted one's addresses are those that it asked for, whichever part was noted first.
use mathlib.Core.Path.{ap, sym, ◌∙◌}
use mathlib.Core.Bool.{Bool}
use mathlib.Core.List.{List}
use Prim.Native.Nat.{ℕ, ◌+◌, ◌<◌}
use native.Mathlib.Omega.{arith}
use lib.ListN.{length}
use lib.Seq.{sets}
use Rattle.memory.specs.Word.{when◌then◌else◌}
use Rattle.memory.specs.Reading.{run, asked}
use Rattle.memory.proofs.ReadBounds.{Words}
use Rattle.blocks.specs.RowBlock.{segments_of}
use Rattle.layout.specs.Layout.{Overlay}
use Rattle.layout.specs.Answers.{overlay_of}
use Rattle.codes.specs.Codes.{blank}
use Rattle.cells.specs.Cells.{row_cells}
use Rattle.row.specs.Row.{code_settings, row}
use Rattle.row.proofs.RowLaws.{plan-drawable}
use Rattle.addresses.specs.Addresses.{block_addresses, row_addresses}
use Rattle.addresses.proofs.Asked.{asked-row, row_room, cursor-alike}
use Rattle.listed.proofs.ListedLaws.{accepted-from, row-placed}
use Rattle.plan.proofs.PlanPassing.{plan-passing}
use Rattle.listed.proofs.planned_at.Goals as goal

pub code_settings-code-requires : goal.code_settings-code-requires
code_settings-code-requires c = (plan-passing _ _ _ c.requires.buffer_len.1).straight

pub put_row-requires : goal.put_row-requires
put_row-requires c =
    let a = c.args in
    let pre = c.requires in
    let m = a.mem.now in
    let s = a.state in
    let words : Words m = λ i. (c.type_inv.mem i).fits in
    let small : s.fields.fill.code < 256 = c.well_formed.1.1.0.1.1.1.0.1.1.1.1.1.0.1.1.0.1 in
    let drawn = c.draw in
    let from = accepted-from a.settings s.fields a.buffer.now (run m (row a.settings s)) (rw c.in_ok-drawn.was at c.draw.ensures.buffer_after) in
    let same = rw (← from.cells) at (cursor-alike a.settings s.fields from.row.drawing.cells) in
    let is = asked-row a.settings m words s small c.draw.new.buffer pre.buffer_len.1 from.is same in
    rw c.code_settings-code.ensures (record {
      drawable = (plan-drawable a.settings m words s.fields pre.buffer_len.1).0;
      cells_len = drawn.auto.buffer ∙ pre.buffer_len.0;
      cells_in_bounds = omega (arith, ap length is, row_room a.settings m words s small, drawn.auto.list, pre.list_len.0, pre.list_len.1);
    })

pub returns : goal.returns
returns c =
    let a = c.args in
    let pre = c.requires in
    let σ = a.settings in
    let m = a.mem.now in
    let s = a.state in
    let f = s.fields in
    let words : Words m = λ i. (c.type_inv.mem i).fits in
    let small : f.fill.code < 256 = c.well_formed.1.1.0.1.1.1.0.1.1.1.1.1.0.1.1.0.1 in
    let straight = (plan-passing _ _ _ pre.buffer_len.1).straight in
    let certain = c.is_sure-certain.result in
    let drawn = rw c.in_ok-drawn.was at c.draw.ensures in
    let from = accepted-from σ f a.buffer.now (run m (row σ s)) drawn.buffer_after in
    let same = rw (← from.cells) at (cursor-alike σ f from.row.drawing.cells) in
    let is = asked-row σ m words s small _ pre.buffer_len.1 from.is same in
    let put = rw c.code_settings-code.ensures at c.put_row.ensures in
    let buffer = c.draw.new.buffer in
    let o : Bool → Overlay = λ l. overlay_of l a.p.overlay a.window.now in
    let cells : Bool → List ℕ =
    λ l. asked m (row_cells (code_settings σ) f.fill (o l) (segments_of l a.p.count a.back.now) (blank s.latch)) in
    let written : List ℕ → List ℕ =
    λ k. sets k a.at (when certain then block_addresses σ.linear m f (o σ.linear) else row_addresses (code_settings σ) m f (o σ.linear) (segments_of σ.linear a.p.count a.back.now) buffer) in
    let list = put ∙ ap written drawn.list_after ∙ ap (λ (l : Bool). written (when certain then sets a.list.now (a.at + a.p.words) (cells l) else a.list.now)) (sym straight) in
    record {
      few_words = drawn.few_words.0;
      buffer_after = drawn.buffer_after;
      list_after = row-placed σ m s pre.buffer_len.1 certain a.at a.list.now _ _ is list;
    }
