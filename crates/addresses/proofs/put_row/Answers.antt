-- The blocks, then the cells where they are not noted.
use mathlib.Core.Path.{◌≡◌, ap, sym, ◌∙◌}
use mathlib.Core.Bool.{false}
use mathlib.Core.List.{List}
use Prim.Native.Nat.{ℕ, ◌+◌}
use native.Mathlib.Omega.{arith}
use lib.ListN.{length, length-append}
use lib.Seq.{sets}
use Rattle.blocks.specs.RowBlock.{segments_of}
use Rattle.layout.specs.Answers.{overlay_of}
use Rattle.addresses.specs.Addresses.{block_addresses, cell_addresses, row_addresses}
use Rattle.addresses.proofs.PlaceLaws.{sets-append, blocks-same}
use Rattle.addresses.proofs.put_row.Goals as goal

pub put_blocks-then-requires : goal.put_blocks-then-requires
unfolding row_addresses
put_blocks-then-requires c =
    let a = c.args in
    let σ = a.settings in
    let f = a.fields in
    let m = a.mem.now in
    let o = overlay_of σ.linear a.overlay a.window.now in
    let gs = segments_of σ.linear a.count a.back.now in
    let x = block_addresses σ.linear m f o in
    let y = cell_addresses σ m f.fill a.cells.now o gs in
    λ ws.
    omega (arith, c.requires.cells_in_bounds, length-append x y, ap length (blocks-same σ.linear m f a.overlay ws a.window.now))

pub put_cells-requires : goal.put_cells-requires
unfolding row_addresses
put_cells-requires c =
    let a = c.args in
    let p = c.requires in
    let σ = a.settings in
    let f = a.fields in
    let m = a.mem.now in
    let o = overlay_of σ.linear a.overlay a.window.now in
    let gs = segments_of σ.linear a.count a.back.now in
    let x = block_addresses σ.linear m f o in
    let y = cell_addresses σ m f.fill a.cells.now o gs in
    let b = c.put_blocks-then in
    record {
      drawable = p.drawable;
      cells_len = p.cells_len;
      back_in_bounds = omega (arith, p.cells_in_bounds, length-append x y, c.put_blocks-then.ensures.by_index a.window.now, b.auto.list);
    }

pub returns-then-not-noted : goal.returns-then-not-noted
unfolding row_addresses
returns-then-not-noted c =
    let a = c.args in
    let σ = a.settings in
    let f = a.fields in
    let m = a.mem.now in
    let o = overlay_of σ.linear a.overlay a.window.now in
    let gs = segments_of σ.linear a.count a.back.now in
    let x = block_addresses σ.linear m f o in
    let y = cell_addresses σ m f.fill a.cells.now o gs in
    let off : a.noted ≡ false = c.if-not-noted.true in
    rw off (rw (c.put_blocks-then.ensures.by_index a.window.now) at c.put_cells.ensures
    ∙ ap (λ (k : List ℕ). sets k (a.at + length x) y) (c.put_blocks-then.ensures.by_index_2 a.window.now)
    ∙ sym (sets-append a.list.now a.at x y))
