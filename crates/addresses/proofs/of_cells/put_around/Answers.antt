-- The three stretches follow one another as in the definition; what a plan has checked gives the room of each.
use mathlib.Core.Path.{ap, sym, ◌∙◌}
use mathlib.Core.List.{List, ◌++◌}
use Prim.Native.Nat.{ℕ, ◌+◌}
use native.Mathlib.Omega.{arith}
use lib.ListN.{length, length-append}
use lib.Seq.{sets}
use Rattle.blocks.specs.RowBlock.{segments_of}
use Rattle.layout.specs.declared.Side.TheVariants.{Before, After}
use Rattle.layout.specs.Layout.{segments_on}
use Rattle.layout.proofs.LayoutLaws.{whole-all}
use Rattle.cells.proofs.SideLaws.{around}
use Rattle.codes.specs.Codes.{no_list}
use Rattle.addresses.specs.Addresses.{run_addresses, run_list, cell_addresses}
use Rattle.addresses.proofs.PlaceLaws.{sets-append}
use Rattle.addresses.proofs.of_cells.put_around.Goals as goal

pub put_stretch-before-requires : goal.put_stretch-before-requires
unfolding cell_addresses
put_stretch-before-requires c =
    let a = c.args in
    let p = c.requires in
    let σ = a.settings in
    let gs = segments_of σ.linear a.count a.back.now in
    let ws = segments_of σ.linear a.n a.window.now in
    let k = around σ.hidden 0 a.first a.end ws gs p.drawable in
    let before = segments_on (Before a.first) σ.hidden 0 gs in
    let after = segments_on (After a.first a.end) σ.hidden 0 gs in
    let x = run_addresses σ a.mem.now a.fill a.cells.now 0 before a.first no_list in
    let y = run_addresses σ a.mem.now a.fill a.cells.now a.first ws a.end no_list in
    let z = run_addresses σ a.mem.now a.fill a.cells.now a.end after 132 (run_list σ a.mem.now a.fill a.cells.now 0 before a.first no_list) in
    rw p.cells_len.1 (record {
      segments_bound = (omega (arith, k.before, k.inside, k.after), p.cells_len.0);
      list_in_bounds = omega (arith, p.back_in_bounds, length-append x (y ++ z));
    })

pub put_stretch-inside-requires : goal.put_stretch-inside-requires
unfolding cell_addresses
put_stretch-inside-requires c =
    let a = c.args in
    let p = c.requires in
    let σ = a.settings in
    let gs = segments_of σ.linear a.count a.back.now in
    let ws = segments_of σ.linear a.n a.window.now in
    let k = around σ.hidden 0 a.first a.end ws gs p.drawable in
    let before = segments_on (Before a.first) σ.hidden 0 gs in
    let after = segments_on (After a.first a.end) σ.hidden 0 gs in
    let x = run_addresses σ a.mem.now a.fill a.cells.now 0 before a.first no_list in
    let y = run_addresses σ a.mem.now a.fill a.cells.now a.first ws a.end no_list in
    let z = run_addresses σ a.mem.now a.fill a.cells.now a.end after 132 (run_list σ a.mem.now a.fill a.cells.now 0 before a.first no_list) in
    let one = c.put_stretch-before in
    let r = rw p.cells_len.1 at one.ensures.value in record {
      segments_bound = (omega (arith, k.inside, k.after), p.cells_len.0);
      list_in_bounds = rw (c.no_list.ensures, r, whole-all σ.hidden 0 ws) (omega (arith, p.back_in_bounds, length-append x (y ++ z), length-append y z, one.auto.list));
    }

pub put_stretch-requires : goal.put_stretch-requires
unfolding cell_addresses
put_stretch-requires c =
    let a = c.args in
    let p = c.requires in
    let σ = a.settings in
    let gs = segments_of σ.linear a.count a.back.now in
    let ws = segments_of σ.linear a.n a.window.now in
    let k = around σ.hidden 0 a.first a.end ws gs p.drawable in
    let before = segments_on (Before a.first) σ.hidden 0 gs in
    let after = segments_on (After a.first a.end) σ.hidden 0 gs in
    let x = run_addresses σ a.mem.now a.fill a.cells.now 0 before a.first no_list in
    let y = run_addresses σ a.mem.now a.fill a.cells.now a.first ws a.end no_list in
    let z = run_addresses σ a.mem.now a.fill a.cells.now a.end after 132 (run_list σ a.mem.now a.fill a.cells.now 0 before a.first no_list) in
    let one = c.put_stretch-before in
    let two = c.put_stretch-inside in
    let r = rw p.cells_len.1 at c.put_stretch-before.ensures.value in
    let s = rw (c.no_list.ensures, r, whole-all σ.hidden 0 ws) at c.put_stretch-inside.ensures.value in record {
      segments_bound = (omega (arith, k.after), p.cells_len.0);
      list_in_bounds = rw (s, r) (omega (arith, p.back_in_bounds, length-append x (y ++ z), length-append y z, one.auto.list, two.auto.list));
    }

pub returns : goal.returns
unfolding cell_addresses
returns c =
    let a = c.args in
    let p = c.requires in
    let σ = a.settings in
    let gs = segments_of σ.linear a.count a.back.now in
    let ws = segments_of σ.linear a.n a.window.now in
    let before = segments_on (Before a.first) σ.hidden 0 gs in
    let after = segments_on (After a.first a.end) σ.hidden 0 gs in
    let x = run_addresses σ a.mem.now a.fill a.cells.now 0 before a.first no_list in
    let y = run_addresses σ a.mem.now a.fill a.cells.now a.first ws a.end no_list in
    let z = run_addresses σ a.mem.now a.fill a.cells.now a.end after 132 (run_list σ a.mem.now a.fill a.cells.now 0 before a.first no_list) in
    let r = rw p.cells_len.1 at c.put_stretch-before.ensures in
    let s = rw (c.no_list.ensures, r.value, whole-all σ.hidden 0 ws) at c.put_stretch-inside.ensures in
    let t = rw (s.value, r.value) at c.put_stretch.ensures.list_after in
    t
    ∙ ap (λ (k : List ℕ). sets k (a.to.at + length x + length y) z) (s.list_after ∙ ap (λ (k : List ℕ). sets k (a.to.at + length x) y) r.list_after)
    ∙ sym (sets-append a.list.now a.to.at x (y ++ z) ∙ sets-append (sets a.list.now a.to.at x) (a.to.at + length x) y z)
