use mathlib.Core.Path.{◌≡◌}
use Prim.Native.Nat.{◌≤◌, ◌+◌, ◌-◌, ◌*◌}
use lib.ListN.{length}
use lib.Seq.{sets}
use Rattle.blocks.specs.RowBlock.{segments_of}
use Rattle.blocks.specs.Answers.{segments_past}
use Rattle.layout.specs.Layout.{total, segments_on}
use Rattle.addresses.specs.Addresses.{side_addresses, side_list}
use Rattle.addresses.proofs.of_cells.put_stretch.Given as goal

abbrev pub invariant-loop-i : goal.invariant-loop-i
invariant-loop-i l =
    (length l.list ≡ length l.initial.list) × (l.s ≤ 255 * l.i)
    × (l.column + total l.settings.hidden (segments_on l.side l.settings.hidden l.s (segments_past l.settings.linear l.count l.segments l.i))
    ≡ l.initial.column + total l.settings.hidden (segments_on l.side l.settings.hidden 0 (segments_of l.settings.linear l.count l.segments)))
    × (l.initial.to.at + length (side_addresses l.settings l.mem l.fill l.cells l.initial.column (segments_on l.side l.settings.hidden 0 (segments_of l.settings.linear l.count l.segments)))
    ≡ l.to.at + length (side_addresses l.settings l.mem l.fill l.cells l.column (segments_on l.side l.settings.hidden l.s (segments_past l.settings.linear l.count l.segments l.i))))
    × (side_list l.settings l.mem l.fill l.cells l.initial.column (segments_on l.side l.settings.hidden 0 (segments_of l.settings.linear l.count l.segments)) l.initial.to.list
    ≡ side_list l.settings l.mem l.fill l.cells l.column (segments_on l.side l.settings.hidden l.s (segments_past l.settings.linear l.count l.segments l.i)) l.to.list)
    × (sets l.initial.list l.initial.to.at (side_addresses l.settings l.mem l.fill l.cells l.initial.column (segments_on l.side l.settings.hidden 0 (segments_of l.settings.linear l.count l.segments)))
    ≡ sets l.list l.to.at (side_addresses l.settings l.mem l.fill l.cells l.column (segments_on l.side l.settings.hidden l.s (segments_past l.settings.linear l.count l.segments l.i))))
