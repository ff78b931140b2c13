use mathlib.Core.Path.{◌≡◌}
use mathlib.Core.List.{List}
use Prim.Native.Nat.{◌-◌}
use lib.ListN.{drop}
use Rattle.memory.specs.Reading.{Role, read_as}
use Rattle.memory.specs.Address.{words}
use Rattle.marking.specs.Answers.{Kept, trail, Shaped}
use Rattle.marking.proofs.marked.Marked.mark_words.Given as goal

abbrev pub invariant-loop-i : goal.invariant-loop-i
invariant-loop-i l =
    let m = l.initial.self.mem.now in
    record {
      kept : Kept l.initial.self l.self;
      rest : (rs : List Role) → Shaped l.shape l.count rs
          → trail l.held m l.initial.self.marks.now (read_as rs (words l.linear l.count l.initial.at)) ≡ trail l.held m l.self.marks.now (read_as (drop l.i rs) (words l.linear (l.count - l.i) l.at));
    }
