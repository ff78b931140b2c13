use mathlib.Core.Path.{◌≡◌}
use Prim.Native.Nat.{◌≤◌, ◌*◌}
use Rattle.blocks.specs.RowBlock.{segments_of}
use Rattle.blocks.specs.Answers.{segments_past}
use Rattle.layout.specs.Layout.{boundary}
use Rattle.layout.proofs.is_boundary.Given as goal

abbrev pub invariant-loop-i : goal.invariant-loop-i
invariant-loop-i l =
    (l.at ≤ 255 * l.i)
    × (boundary l.hidden 0 (segments_of l.linear l.count l.words) l.place ≡ boundary l.hidden l.at (segments_past l.linear l.count l.words l.i) l.place)
