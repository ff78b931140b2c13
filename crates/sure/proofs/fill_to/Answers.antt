-- The three cases are the definition's: no cell, a word first, or the latch.
use mathlib.Core.Path.{ap, ap₂, sym, ◌∙◌}
use mathlib.Core.List.{List}
use Prim.Native.Nat.{ℕ, ◌+◌, ◌<◌}
use native.Mathlib.Omega.{arith}
use Rattle.memory.specs.Reading.{given}
use Rattle.codes.specs.Codes.{Drawing, taking}
use Rattle.codes.specs.Answers.{so_far}
use Rattle.noting.specs.Noting.{noted}
use Rattle.sure.proofs.WalkLaws.{fill_none, fill-plain, fill-word}
use Rattle.sure.proofs.fill_to.Goals as goal

pub returns-then-end-pen : goal.returns-then-end-pen
returns-then-end-pen c =
    let a = c.args in record { column_value = (omega arith, omega arith); cells_value = fill_none a.words a.mem.now a.list.now a.settings a.fill a.end (so_far a.pen a.cells.now) c.if-end-pen.true }

pub fill_run-requires : goal.fill_run-requires
unfolding taking
fill_run-requires c =
    let p = c.requires in
    rw c.take_word-taken.ensures (omega (arith, p.end_in_bounds.0), omega (arith, p.end_in_bounds.1))

pub returns-then-fill-pen : goal.returns-then-fill-pen
unfolding taking
returns-then-fill-pen c =
    let r = c.fill_run.ensures in
    let drawn = rw c.take_word-taken.ensures at c.fill_run.ensures.cells_after in
    let takes = c.if-fill-pen.true in
    let a = c.args in
    let p = c.requires in
    let left : a.pen.column < a.end = omega (arith, c.if-end-pen.false) in record {
      column_value = (c.fill_run.ensures.column_value, omega arith);
      cells_value = fill-word a.words a.mem.now a.list.now a.settings a.fill a.end (so_far a.pen a.cells.now)
          p.end_in_bounds.3 left takes (p.address_value left takes)
          ∙ ap₂ (λ (d : Drawing) (l : List ℕ). noted (given (a.words + 1) d) l) (sym drawn) (sym c.note.ensures);
    }

pub returns : goal.returns
returns c =
    let a = c.args in
    let r = c.fill_run-2.ensures in
    let left : a.pen.column < a.end = omega (arith, c.if-end-pen.false) in record {
      column_value = (c.fill_run-2.ensures.column_value, omega arith);
      cells_value = fill-plain a.words a.mem.now a.list.now a.settings a.fill a.end (so_far a.pen a.cells.now)
          left c.if-fill-pen.false
          ∙ ap (λ (d : Drawing). noted (given a.words d) a.list.now) (sym c.fill_run-2.ensures.cells_after);
    }
