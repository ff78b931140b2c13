use mathlib.Core.Path.{◌≡◌}
use mathlib.Core.List.{List}
use Prim.Native.Nat.{ℕ, ◌≤◌, ◌+◌, ◌*◌}
use Rattle.memory.specs.Reading.{each}
use Rattle.blocks.specs.Answers.{segments_past}
use Rattle.layout.specs.Layout.{segments_on}
use Rattle.codes.specs.declared.Source.{Source}
use Rattle.codes.specs.declared.Pen.{Pen}
use Rattle.codes.specs.Codes.{drawing}
use Rattle.cells.specs.Cells.{segment}
use Rattle.converter.specs.Walk.{Walked, walk}
use Rattle.marking.specs.Answers.{Kept, pen_of, segments_in}
use Rattle.marking.proofs.marked.Marked.walk_side.Given as goal

abbrev pub invariant-loop-i : goal.invariant-loop-i
invariant-loop-i l =
    let m = l.initial.self.mem.now in
    record {
      kept : Kept l.initial.self l.self;
      place : l.at ≤ 255 * l.i;
      column : l.current.column ≤ l.initial.current.column + 255 * l.i;
      rest : (r : Walked Pen) (source : Source)
          → ((cs : List ℕ) → r ≡ pen_of (walk 0 m l.self.marks.now (each (segment l.settings.codes l.settings.fill source) (segments_on l.side l.settings.codes.hidden l.at (segments_past l.settings.codes.linear l.segments.count l.segments.words.now l.i)) (drawing l.current cs))))
          → (cs : List ℕ) → r ≡ pen_of (walk 0 m l.initial.self.marks.now (each (segment l.settings.codes l.settings.fill source) (segments_on l.side l.settings.codes.hidden 0 (segments_in l.settings.codes.linear l.segments)) (drawing l.initial.current cs)));
    }
