-- The three cases are the definition's: no cell, a word first, or the latch.
use mathlib.Core.Path.{ap, sym, ◌∙◌}
use native.Mathlib.Omega.{arith}
use Rattle.memory.specs.Reading.{given}
use Rattle.codes.specs.Answers.{so_far}
use Rattle.cells.proofs.FillLaws.{fill-by-word, fill-plain, fill_none}
use Rattle.cells.proofs.fill.fill_to.Goals as goal

pub returns-then-fill-pen : goal.returns-then-fill-pen
returns-then-fill-pen c =
    let a = c.args in
    let r = c.fill_by_word.ensures in record {
      reached = c.fill_by_word.ensures.reached;
      cells_after = c.fill_by_word.ensures.cells_after ∙ sym (fill-by-word a.words a.mem.now a.settings a.fill a.end (so_far a.pen a.cells.now) c.if-pen-end.true c.if-fill-pen.true);
    }

pub returns-else-fill-pen : goal.returns-else-fill-pen
returns-else-fill-pen c =
    let a = c.args in
    let r = c.fill_run.ensures in record {
      reached = (c.fill_run.ensures.column_value, omega arith);
      cells_after = ap (given a.words) c.fill_run.ensures.cells_after
          ∙ sym (fill-plain a.words a.mem.now a.settings a.fill a.end (so_far a.pen a.cells.now) c.if-pen-end.true c.if-fill-pen.false);
    }

pub returns-else-pen-end : goal.returns-else-pen-end
returns-else-pen-end c =
    let a = c.args in record {
      reached = (omega arith, omega arith);
      cells_after = sym (fill_none a.words a.mem.now a.settings a.fill a.end (so_far a.pen a.cells.now) c.if-pen-end.false);
    }
