use mathlib.Core.Path.{◌≡◌}
use Prim.Native.Nat.{◌-◌}
use Rattle.converter.specs.Converter.{follow_rows}
use Rattle.marking.specs.Answers.{Kept}
use Rattle.following.proofs.rows.follow_rows.Given as goal

abbrev pub invariant-loop : goal.invariant-loop
invariant-loop l =
    let m = l.initial.marked.mem.now in
    record {
      kept : Kept l.initial.marked l.marked;
      rest : follow_rows (l.end - l.counter) l.settings m l.marked.marks.now l.current ≡ follow_rows l.fn.state.fields.left l.settings m l.initial.marked.marks.now l.fn.state;
    }
