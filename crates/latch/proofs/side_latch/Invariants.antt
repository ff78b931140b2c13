use mathlib.Core.Path.{◌≡◌}
use Prim.Native.Nat.{◌≤◌, ◌*◌}
use Rattle.blocks.specs.RowBlock.{segments_of}
use Rattle.blocks.specs.Answers.{segments_past}
use Rattle.layout.specs.Layout.{segments_on}
use Rattle.latch.specs.Latch.{join, over_segments}
use Rattle.latch.proofs.side_latch.Given as goal

abbrev pub invariant-loop-i : goal.invariant-loop-i
invariant-loop-i l =
    (l.at ≤ 255 * l.i)
    × (join l.initial.made (over_segments l.settings l.mem (segments_on l.side l.settings.hidden 0 (segments_of l.settings.linear l.count l.segments)))
    ≡ join l.made (over_segments l.settings l.mem (segments_on l.side l.settings.hidden l.at (segments_past l.settings.linear l.count l.segments l.i))))
