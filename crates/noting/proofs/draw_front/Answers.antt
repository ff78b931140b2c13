-- No codes read nothing; the others all have the latch.
use mathlib.Core.Path.{refl}
use native.Mathlib.Omega.{arith}
use Rattle.codes.specs.Answers.{so_far}
use Rattle.noting.specs.Noting.{pointing}
use Rattle.noting.proofs.PlainLaws.{codes-none}
use Rattle.noting.proofs.draw_front.Goals as goal

pub returns-then-count-eq0 : goal.returns-then-count-eq0
returns-then-count-eq0 c =
    let a = c.args in
    let pre = c.requires in record {
      column_le_end = (pre.end_in_bounds.1, omega arith, refl);
      by_index = λ from.
          codes-none a.settings a.room.source a.room.end a.words a.mem.now a.list.now a.count
          (pointing a.first from) (so_far a.pen a.cells.now) (omega arith);
    }
