use mathlib.Core.Path.{◌≡◌}
use mathlib.Core.Bool.{true}
use Prim.Native.Nat.{◌≤◌, ◌+◌, ◌*◌}
use Rattle.memory.specs.Reading.{each}
use Rattle.blocks.specs.RowBlock.{segments_of}
use Rattle.blocks.specs.Answers.{segments_past}
use Rattle.layout.specs.Layout.{total, segments_on}
use Rattle.codes.specs.Answers.{so_far}
use Rattle.cells.specs.Cells.{segment}
use Rattle.noting.specs.Noting.{noting}
use Rattle.sure.specs.Sure.{sure_all}
use Rattle.sure.proofs.draw_side.Given as goal

abbrev pub invariant-loop-i : goal.invariant-loop-i
invariant-loop-i l =
    (l.at ≤ 255 * l.i) × (l.read ≤ l.words + 512 * l.i)
    × (sure_all l.fill.flag l.mem (segments_past true l.count l.segments l.i) ≡ true)
    × (l.current.column + total l.settings.hidden (segments_on l.side l.settings.hidden l.at (segments_past true l.count l.segments l.i))
    ≡ l.initial.current.column + total l.settings.hidden (segments_on l.side l.settings.hidden 0 (segments_of true l.count l.segments)))
    × (noting l.words l.mem l.initial.list
    (each (segment l.settings l.fill l.source) (segments_on l.side l.settings.hidden 0 (segments_of true l.count l.segments)) (so_far l.initial.current l.initial.cells))
    ≡ noting l.read l.mem l.list
    (each (segment l.settings l.fill l.source) (segments_on l.side l.settings.hidden l.at (segments_past true l.count l.segments l.i))
    (so_far l.current l.cells)))
