-- A code that invokes takes the word that is there; the cell and the cursor are those of the definition either way.
use mathlib.Core.Path.{◌≡◌, refl, ap, sym, ◌∙◌}
use mathlib.Core.Bool.{true, false}
use Prim.Native.Nat.{◌+◌, ◌/◌}
use native.Mathlib.Omega.{arith}
use lib.ListN.{get_or}
use Rattle.codes.specs.declared.Pen.{Pen}
use Rattle.codes.specs.Attribute.{invokes}
use Rattle.codes.specs.Codes.{taking}
use Rattle.codes.specs.Answers.{so_far}
use Rattle.runs.specs.Runs.{examined, pen_of}
use Rattle.runs.proofs.RunLaws.{in-force-room, column-room, in-force-taken, pen-taken}
use Rattle.runs.proofs.with_list.examine_listed.Goals as goal

pub put_code-column-requires : goal.put_code-column-requires
put_code-column-requires c =
    let a = c.args in
    in-force-room _ a.settings.hidden a.room.source a.room.end _ _ c.in_force-own.ensures c.requires.0

pub put_code-column-requires-else-invokes : goal.put_code-column-requires-else-invokes
put_code-column-requires-else-invokes c =
    let a = c.args in
    in-force-room _ a.settings.hidden a.room.source a.room.end a.cursor.latch _ c.requires.2 c.requires.0

pub returns-then-invokes : goal.returns-then-invokes
unfolding examined taking
returns-then-invokes c =
    let a = c.args in
    let pre = c.requires in
    let h = a.cursor in
    let w = get_or a.mem.now (a.list.address / 2 + h.taken) 0 in
    let own = c.in_force-own in
    let put = c.put_code-column in
    let invoked : invokes a.settings.flag a.code ≡ true = sym c.invokes.ensures ∙ c.if-invokes.true in
    rw (c.with_word.ensures, invoked) (record {
      column_le_end = (
        rw put.ensures.value (column-room _ a.settings.hidden a.room.source a.room.end w h.column own.ensures pre.1),
        in-force-taken w own.result put.result h a.settings.hidden a.room.source a.room.end own.ensures pre.2,
        refl,
      );
      cells_after = ap (λ (p : Pen). so_far p put.new.cells) (pen-taken w own.result put.result h a.settings.linear a.list)
          ∙ put.ensures.cells_after a.settings.hidden a.room.source a.room.end w (taking a.settings.linear w (pen_of a.settings.linear a.list h)) own.ensures refl pre.0;
    })

pub returns-else-invokes : goal.returns-else-invokes
unfolding examined
returns-else-invokes c =
    let a = c.args in
    let pre = c.requires in
    let h = a.cursor in
    let put = c.put_code-column-else-invokes in
    let plain : invokes a.settings.flag a.code ≡ false = sym c.invokes.ensures ∙ c.if-invokes.false in
    rw plain record {
      column_le_end = (
        rw put.ensures.value (column-room _ a.settings.hidden a.room.source a.room.end h.latch h.column pre.2 pre.1),
        pre.2,
        omega arith,
      );
      cells_after = put.ensures.cells_after a.settings.hidden a.room.source a.room.end h.latch (pen_of a.settings.linear a.list h) pre.2 refl pre.0;
    }
