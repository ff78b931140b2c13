-- Each turn passes one segment: what is left to write, from the next place on, makes the whole side. Then its fill run.
use mathlib.Core.Path.{◌≡◌, refl, ap, sym, ◌∙◌}
use mathlib.Core.List.{List}
use Prim.Native.Nat.{ℕ, ◌≤◌, ◌+◌, ◌<◌}
use native.Mathlib.Omega.{arith}
use lib.ListN.{length, length-append}
use lib.Seq.{sets}
use Rattle.blocks.specs.RowBlock.{segments_of}
use Rattle.blocks.proofs.BlockLaws.{segments-all}
use Rattle.layout.specs.Layout.{total, segments_on}
use Rattle.layout.proofs.LayoutLaws.{width-byte}
use Rattle.cells.proofs.SideLaws.{side-total, side-none-total}
use Rattle.addresses.specs.Addresses.{taken, chosen_addresses, side_addresses, side_list, run_fills, run_addresses, run_list}
use Rattle.addresses.proofs.PlaceLaws.{written-append, sets-append}
use Rattle.addresses.proofs.SideAddressLaws.{turn, chosen, after, column, side-addresses, side-list, none-addresses, none_list}
use borrow.Author.Rules.{rules}
use Rattle.addresses.proofs.of_cells.put_stretch.Goals as goal

pub loop-i-init : goal.loop-i-init
loop-i-init c = (refl, omega arith, rw segments-all, rw segments-all, rw segments-all, rw segments-all)

pub put_chosen-to-requires : goal.put_chosen-to-requires
unfolding run_addresses
put_chosen-to-requires c =
    let a = c.args in
    let l = c.loop-i in
    let σ = a.stretch.settings in
    let gs = segments_on a.stretch.side σ.hidden 0 (segments_of σ.linear a.count a.segments.now) in
    let t = side-total 0 a.mem.now σ.linear σ.hidden a.stretch.side a.count a.segments.now l.s l.i (omega arith) in
    let e = side-addresses σ a.mem.now a.stretch.fill a.cells.now a.stretch.side a.count a.segments.now l.column l.s l.i (omega arith) in
    rw (c.on_side-chosen.ensures, c.width-w.ensures, c.segment_at-g.ensures) (record {
      else_in_bounds = omega (arith, t, l.invariant.2, c.requires.segments_bound.0, c.requires.segments_bound.1);
      g_in_bounds = omega (
        arith,
        l.invariant.0,
        l.invariant.3,
        ap length e,
        c.requires.list_in_bounds,
        length-append (side_addresses σ a.mem.now a.stretch.fill a.cells.now a.stretch.column gs) (taken (run_fills σ a.mem.now a.stretch.fill a.cells.now a.stretch.column gs a.stretch.end a.from.list) (side_list σ a.mem.now a.stretch.fill a.cells.now a.stretch.column gs a.from.list)),
        length-append (chosen_addresses σ a.mem.now a.stretch.fill a.cells.now (chosen σ a.mem.now a.stretch.fill a.cells.now a.stretch.side a.count a.segments.now l.column l.s l.i) l.column (turn σ a.mem.now a.stretch.fill a.cells.now a.stretch.side a.count a.segments.now l.column l.s l.i))
            (side_addresses σ a.mem.now a.stretch.fill a.cells.now (column σ a.mem.now a.stretch.fill a.cells.now a.stretch.side a.count a.segments.now l.column l.s l.i) (after σ a.mem.now a.stretch.fill a.cells.now a.stretch.side a.count a.segments.now l.column l.s l.i)),
      );
    })

pub overflow_add-column : goal.overflow_add-column
overflow_add-column c =
    let a = c.args in
    let l = c.loop-i in
    let σ = a.stretch.settings in
    let t = side-total 0 a.mem.now σ.linear σ.hidden a.stretch.side a.count a.segments.now l.s l.i (omega arith) in
    let room : l.column + c.chosen_width-column.result ≤ 132
    = rw (c.chosen_width-column.ensures, c.on_side-chosen.ensures, c.width-w.ensures, c.segment_at-g.ensures) (omega (arith, t, l.invariant.2, c.requires.segments_bound.0)) in
    search (rules, room)

pub overflow_add-s : goal.overflow_add-s
overflow_add-s c =
    let small : c.args.count.number < 256 = search rules in
    let g = c.segment_at-g in
    omega (arith, c.loop-i-test.true, c.loop-i.invariant.1, small, width-byte c.args.stretch.settings.hidden g.result g.type_inv.1.1.1.1.0.1 g.type_inv.1.1.1.1.1.0.1, c.width-w.ensures)

pub loop-i-preserved : goal.loop-i-preserved
loop-i-preserved c =
    let a = c.args in
    let l = c.loop-i in
    let σ = a.stretch.settings in
    let m = a.mem.now in
    let fill = a.stretch.fill in
    let cs = a.cells.now in
    let test = c.loop-i-test.true in
    let t = side-total 0 m σ.linear σ.hidden a.stretch.side a.count a.segments.now l.s l.i test in
    let e = side-addresses σ m fill cs a.stretch.side a.count a.segments.now l.column l.s l.i test in
    let g = c.segment_at-g in
    let put = c.put_chosen-to in
    let front = chosen_addresses σ m fill cs (chosen σ m fill cs a.stretch.side a.count a.segments.now l.column l.s l.i) l.column (turn σ m fill cs a.stretch.side a.count a.segments.now l.column l.s l.i) in
    let rest = side_addresses σ m fill cs (column σ m fill cs a.stretch.side a.count a.segments.now l.column l.s l.i) (after σ m fill cs a.stretch.side a.count a.segments.now l.column l.s l.i) in (
      put.auto.list ∙ l.invariant.0,
      omega (arith, l.invariant.1, width-byte σ.hidden g.result g.type_inv.1.1.1.1.0.1 g.type_inv.1.1.1.1.1.0.1, c.width-w.ensures),
      rw (c.chosen_width-column.ensures, c.on_side-chosen.ensures, c.width-w.ensures, g.ensures) (omega (arith, t, l.invariant.2)),
      rw (c.put_chosen-to.ensures.value, c.chosen_width-column.ensures, c.on_side-chosen.ensures, c.width-w.ensures, g.ensures) (omega (arith, l.invariant.3, ap length e, length-append front rest)),
      rw (c.put_chosen-to.ensures.value, c.chosen_width-column.ensures, c.on_side-chosen.ensures, c.width-w.ensures, g.ensures)
          (l.invariant.4 ∙ side-list σ m fill cs a.stretch.side a.count a.segments.now l.column l.s l.i l.to.list test),
      rw (c.put_chosen-to.ensures.list_after, c.put_chosen-to.ensures.value, c.chosen_width-column.ensures, c.on_side-chosen.ensures, c.width-w.ensures, g.ensures)
          (l.invariant.5 ∙ ap (sets l.list l.to.at) e ∙ sets-append l.list l.to.at front rest),
    )

-- where the loop ends: at the place, the column and the list that the definition has after the segments
pub put_taken-requires : goal.put_taken-requires
unfolding run_addresses
put_taken-requires c =
    let a = c.args in
    let l = c.loop-i in
    let σ = a.stretch.settings in
    let m = a.mem.now in
    let fill = a.stretch.fill in
    let cs = a.cells.now in
    let gs = segments_on a.stretch.side σ.hidden 0 (segments_of σ.linear a.count a.segments.now) in
    let none = none-addresses σ m fill cs a.stretch.side a.count a.segments.now l.column l.s l.i (omega arith) in
    let width = side-none-total 0 m σ.linear σ.hidden a.stretch.side a.count a.segments.now l.s l.i (omega arith) in
    let list : l.to.list ≡ side_list σ m fill cs a.stretch.column gs a.from.list = sym (l.invariant.4 ∙ none_list σ m fill cs a.stretch.side a.count a.segments.now l.column l.s l.i l.to.list (omega arith)) in
    let ends : l.column ≡ a.stretch.column + total σ.hidden gs = omega (arith, l.invariant.2, width) in
    rw (c.does_fill-due.ensures, list, ends)
    (omega (
      arith,
      l.invariant.0,
      l.invariant.3,
      ap length none,
      c.requires.list_in_bounds,
      length-append (side_addresses σ m fill cs a.stretch.column gs) (taken (run_fills σ m fill cs a.stretch.column gs a.stretch.end a.from.list) (side_list σ m fill cs a.stretch.column gs a.from.list)),
    ))

pub returns : goal.returns
unfolding run_addresses run_list
returns c =
    let a = c.args in
    let l = c.loop-i in
    let σ = a.stretch.settings in
    let m = a.mem.now in
    let fill = a.stretch.fill in
    let cs = a.cells.now in
    let gs = segments_on a.stretch.side σ.hidden 0 (segments_of σ.linear a.count a.segments.now) in
    let none = none-addresses σ m fill cs a.stretch.side a.count a.segments.now l.column l.s l.i (omega arith) in
    let width = side-none-total 0 m σ.linear σ.hidden a.stretch.side a.count a.segments.now l.s l.i (omega arith) in
    let list : l.to.list ≡ side_list σ m fill cs a.stretch.column gs a.from.list = sym (l.invariant.4 ∙ none_list σ m fill cs a.stretch.side a.count a.segments.now l.column l.s l.i l.to.list (omega arith)) in
    let ends : l.column ≡ a.stretch.column + total σ.hidden gs = omega (arith, l.invariant.2, width) in
    let front = side_addresses σ m fill cs a.stretch.column gs in
    let place : l.to.at ≡ a.from.at + length front = omega (arith, l.invariant.3, ap length none) in
    let all : sets a.list.now a.from.at front ≡ l.list = l.invariant.5 ∙ ap (sets l.list l.to.at) none in
    let rest = taken (run_fills σ m fill cs a.stretch.column gs a.stretch.end a.from.list) (side_list σ m fill cs a.stretch.column gs a.from.list) in
    let r = rw (c.does_fill-due.ensures, list, ends, place) at c.put_taken.ensures in record { value = r.value ∙ written-append a.from.at front rest _; list_after = r.list_after ∙ ap (λ (k : List ℕ). sets k (a.from.at + length front) rest) (sym all) ∙ sym (sets-append a.list.now a.from.at front rest) }
