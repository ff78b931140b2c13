-- The word of the list is taken where it has bit 15, refused where it has not or is missing.
use mathlib.Core.Path.{ap, sym, ◌∙◌}
use Prim.Native.Nat.{◌+◌}
use native.Mathlib.Omega.{arith}
use Rattle.memory.specs.Reading.{given}
use Rattle.codes.specs.Codes.{taking}
use Rattle.codes.specs.Answers.{so_far}
use Rattle.cells.proofs.FillLaws.{fill-word, fill-unlatched, fill-absent}
use Rattle.cells.proofs.fill.fill_by_word.Goals as goal

pub fill_run-requires : goal.fill_run-requires
unfolding taking
fill_run-requires c = rw c.take_word-taken.ensures (omega arith, omega arith)

pub returns-then-bit_15 : goal.returns-then-bit_15
unfolding taking
returns-then-bit_15 c =
    let a = c.args in record {
      reached = (c.fill_run.ensures.column_value, omega arith);
      cells_after = ap (given (a.words + 1)) (rw c.take_word-taken.ensures at c.fill_run.ensures.cells_after)
          ∙ sym (fill-word a.words a.mem.now a.settings a.fill a.end (so_far a.pen a.cells.now) _
          (sym c.word_at.ensures ∙ c.in-Some.is) (sym c.bit_15.ensures ∙ c.if-bit_15.true));
    }

pub returns-else-bit_15 : goal.returns-else-bit_15
returns-else-bit_15 c =
    let a = c.args in record {
      reached = tt;
      cells_after = rw c.unlatched.ensures (sym (fill-unlatched a.words a.mem.now a.settings a.fill a.end (so_far a.pen a.cells.now) _
          (sym c.word_at.ensures ∙ c.in-Some.is) (sym c.bit_15.ensures ∙ c.if-bit_15.false)));
    }

pub returns-in_default : goal.returns-in_default
returns-in_default c =
    let a = c.args in record {
      reached = tt;
      cells_after = rw c.missing.ensures (sym (fill-absent a.words a.mem.now a.settings a.fill a.end (so_far a.pen a.cells.now)
          (sym c.word_at.ensures ∙ c.in_default.is)));
    }
