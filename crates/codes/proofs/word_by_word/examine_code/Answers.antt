-- A code that takes a word of the list is examined by that word, and one that takes none by the latch. The latch comes first: a code
-- may have it only where it invokes none or has no list, whatever room is left.
use mathlib.Core.Path.{ap, sym, ◌∙◌}
use Prim.Native.Nat.{◌+◌}
use native.Mathlib.Omega.{arith}
use Rattle.memory.specs.Reading.{given}
use Rattle.codes.specs.Codes.{taking}
use Rattle.codes.specs.Answers.{so_far}
use Rattle.codes.proofs.CodeLaws.{examine-word, examine-absent, examine-latch}
use Rattle.codes.proofs.word_by_word.examine_code.Goals as goal

pub put_character-requires : goal.put_character-requires
unfolding taking
put_character-requires c = rw c.take_word-taken.ensures (omega arith, omega arith)

pub returns-else-invokes-pen : goal.returns-else-invokes-pen
returns-else-invokes-pen c =
    let a = c.args in
    let r = c.put_character-else-invokes-pen.ensures in record {
      within = (r.column_le_end, omega arith);
      cells_after = ap (given a.words) r.cells_after
          ∙ sym (examine-latch a.words a.mem.now a.settings a.room.source a.room.end a.code (so_far a.pen a.cells.now)
          (rw c.invokes.ensures at c.if-invokes-pen.false));
    }

pub returns-in-Some : goal.returns-in-Some
unfolding taking
returns-in-Some c =
    let a = c.args in
    let r = c.put_character.ensures in record {
      within = (r.column_le_end, omega arith);
      cells_after = ap (given (a.words + 1)) (rw c.take_word-taken.ensures at r.cells_after)
          ∙ sym (examine-word a.words a.mem.now a.settings a.room.source a.room.end a.code (so_far a.pen a.cells.now) _
          (rw c.invokes.ensures at c.if-invokes-pen.true) (sym c.word_at.ensures ∙ c.in-Some.is));
    }

pub returns-in_default : goal.returns-in_default
returns-in_default c =
    let a = c.args in record {
      within = tt;
      cells_after = rw c.missing.ensures (sym (examine-absent a.words a.mem.now a.settings a.room.source a.room.end a.code (so_far a.pen a.cells.now)
          (rw c.invokes.ensures at c.if-invokes-pen.true) (sym c.word_at.ensures ∙ c.in_default.is)));
    }
