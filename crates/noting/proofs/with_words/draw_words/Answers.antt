-- The pairs of codes first, then the odd one, from the pen that the segment begins with.
use mathlib.Core.Path.{ap, ◌∙◌}
use mathlib.Core.Bool.{Bool}
use Prim.Native.Nat.{◌+◌, ◌/◌}
use native.Mathlib.Omega.{arith}
use Rattle.memory.specs.Reading.{given}
use Rattle.codes.specs.Answers.{so_far}
use Rattle.runs.specs.Runs.{pen_of}
use Rattle.runs.proofs.RunLaws.{pen-begun}
use Rattle.noting.specs.Noting.{noted}
use Rattle.noting.proofs.with_words.draw_words.Goals as goal

pub returns : goal.returns
returns c =
    let a = c.args in
    let pre = c.requires in
    let p = c.examine_pairs-pairs in
    let o = c.examine_odd-cursor in
    let σ = a.settings in
    let begun = pen-begun σ.linear σ.hidden a.room.source a.room.end a.pen pre.linear_value.2 in
    rw c.pen_of.ensures (record {
      column_le_end = (c.examine_odd-cursor.ensures.column_le_end.0, omega (arith, c.examine_odd-cursor.ensures.column_le_end.1));
      by_index = λ from. rw (c.cursor_of-begun.ensures, begun) at (c.examine_pairs-pairs.ensures.by_index from) ∙ c.examine_odd-cursor.ensures.by_index from
          ∙ ap (λ (linear : Bool). noted (given (a.words + (a.count + 1) / 2 + o.result.taken) (so_far (pen_of linear a.pen.list.next o.result) c.examine_odd-cursor.new.cells)) c.examine_odd-cursor.new.list) pre.linear_value.0;
    })
