use mathlib.Core.Path.{◌≡◌}
use mathlib.Core.Bool.{true}
use Prim.Native.Nat.{◌≤◌, ◌+◌, ◌*◌}
use Rattle.blocks.specs.RowBlock.{segments_of}
use Rattle.blocks.specs.Answers.{segments_past}
use Rattle.layout.specs.Layout.{total}
use Rattle.sure.proofs.known.fills_row.Given as goal

abbrev pub invariant-loop-i : goal.invariant-loop-i
invariant-loop-i l =
    (l.sum ≤ 255 * l.i) × (total l.hidden (segments_of true l.count l.segments) ≡ l.sum + total l.hidden (segments_past true l.count l.segments l.i))
