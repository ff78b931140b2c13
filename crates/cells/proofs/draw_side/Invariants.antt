use mathlib.Core.Path.{◌≡◌}
use Prim.Native.Nat.{◌≤◌, ◌+◌, ◌*◌}
use Rattle.memory.specs.Reading.{each, run_from}
use Rattle.blocks.specs.RowBlock.{segments_of}
use Rattle.blocks.specs.Answers.{segments_past}
use Rattle.layout.specs.Layout.{total, segments_on}
use Rattle.cells.specs.Cells.{segment}
use Rattle.codes.specs.Answers.{so_far}
use Rattle.cells.proofs.draw_side.Given as goal

abbrev pub invariant-loop-i : goal.invariant-loop-i
invariant-loop-i l =
    (l.at ≤ 255 * l.i) × (l.read ≤ l.words + 512 * l.i)
    × (l.current.column + total l.settings.hidden (segments_on l.side l.settings.hidden l.at (segments_past l.settings.linear l.count l.segments l.i))
    ≡ l.initial.current.column + total l.settings.hidden (segments_on l.side l.settings.hidden 0 (segments_of l.settings.linear l.count l.segments)))
    × (run_from l.words l.mem (each (segment l.settings l.fill l.source) (segments_on l.side l.settings.hidden 0 (segments_of l.settings.linear l.count l.segments)) (so_far l.initial.current l.initial.cells))
    ≡ run_from l.read l.mem (each (segment l.settings l.fill l.source) (segments_on l.side l.settings.hidden l.at (segments_past l.settings.linear l.count l.segments l.i)) (so_far l.current l.cells)))
