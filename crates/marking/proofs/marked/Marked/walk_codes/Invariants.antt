use mathlib.Core.Path.{◌≡◌}
use mathlib.Core.List.{List}
use Prim.Native.Nat.{ℕ, ◌-◌, ◌*◌, ◌≤◌, max}
use Rattle.codes.specs.declared.Source.{Source}
use Rattle.codes.specs.declared.Pen.{Pen}
use Rattle.codes.specs.Codes.{drawing, codes}
use Rattle.converter.specs.Walk.{Walked, walk}
use Rattle.marking.specs.Answers.{Kept, pen_of}
use Rattle.marking.proofs.marked.Marked.walk_codes.Given as goal

abbrev pub invariant-loop-i : goal.invariant-loop-i
invariant-loop-i l =
    let m = l.initial.self.mem.now in
    record {
      kept : Kept l.initial.self l.self;
      within : l.current.column ≤ max l.end l.initial.current.column;
      rest : (r : Walked Pen) (source : Source)
          → ((cs : List ℕ) → r ≡ pen_of (walk 0 m l.self.marks.now (codes l.settings source l.end (l.count - 2 * l.i) l.at (drawing l.current cs))))
          → (cs : List ℕ) → r ≡ pen_of (walk 0 m l.initial.self.marks.now (codes l.settings source l.end l.count l.initial.at (drawing l.initial.current cs)));
    }
