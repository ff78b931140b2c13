use mathlib.Core.Path.{◌≡◌}
use mathlib.Core.Bool.{◌&&◌}
use Prim.Native.Nat.{◌≤◌, ◌+◌, ◌*◌}
use Rattle.blocks.specs.RowBlock.{segments_of}
use Rattle.blocks.specs.Answers.{segments_past}
use Rattle.layout.specs.Layout.{total, all_fit}
use Rattle.layout.proofs.measure_segments.Given as goal

abbrev pub invariant-loop-i : goal.invariant-loop-i
invariant-loop-i l =
    (l.sum ≤ 255 * l.i)
    × (all_fit (segments_of l.linear l.count l.words) ≡ l.fit && all_fit (segments_past l.linear l.count l.words l.i))
    × (total l.hidden (segments_of l.linear l.count l.words) ≡ l.sum + total l.hidden (segments_past l.linear l.count l.words l.i))
