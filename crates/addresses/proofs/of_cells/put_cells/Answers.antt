-- Without a window one stretch, with one the three around it.
use mathlib.Core.Path.{refl}
use native.Mathlib.Omega.{arith}
use Rattle.blocks.specs.RowBlock.{segments_of}
use Rattle.layout.specs.Layout.{edges_fit}
use Rattle.layout.proofs.LayoutLaws.{whole-all}
use Rattle.addresses.specs.Addresses.{cell_addresses}
use Rattle.addresses.proofs.of_cells.put_cells.Goals as goal

pub put_stretch-requires : goal.put_stretch-requires
unfolding cell_addresses
put_stretch-requires c =
    let a = c.args in
    let p = rw c.in-None.is at c.requires in
    let gs = segments_of a.settings.linear a.count a.back.now in
    rw (c.no_list.ensures, whole-all a.settings.hidden 0 gs) (record {
      segments_bound = (omega (arith, p.drawable.narrow), p.cells_len);
      list_in_bounds = p.back_in_bounds;
    })

pub put_around-requires : goal.put_around-requires
unfolding cell_addresses edges_fit
put_around-requires c =
    let p = rw c.in-Some.is at c.requires in
    rw c.no_list.ensures (record {
      drawable = record { narrow = p.drawable.narrow; inside = p.drawable.inside; edges = p.drawable.edges };
      cells_len = (p.cells_len, refl);
      back_in_bounds = p.back_in_bounds;
    })

pub returns-in-None : goal.returns-in-None
unfolding cell_addresses
returns-in-None c =
    let a = c.args in
    let gs = segments_of a.settings.linear a.count a.back.now in
    rw c.in-None.is
    (rw (c.no_list.ensures, whole-all a.settings.hidden 0 gs) at c.put_stretch.ensures.list_after)

pub returns-in-Some : goal.returns-in-Some
unfolding cell_addresses
returns-in-Some c = rw c.in-Some.is c.put_around.ensures
