-- One code is left where their count is odd, and none where it is even.
use mathlib.Core.Path.{◌≡◌, refl, ap, ◌∙◌}
use Prim.Native.Nat.{ℕ, ◌+◌, ◌-◌, ◌*◌, ◌/◌, ◌<◌}
use native.Mathlib.Omega.{arith}
use lib.ListN.{length, set}
use Rattle.memory.specs.Reading.{given}
use Rattle.memory.proofs.RunLaws.{run_ends}
use Rattle.codes.specs.Attribute.{invokes}
use Rattle.codes.specs.Answers.{so_far}
use Rattle.runs.specs.Runs.{pen_of}
use Rattle.noting.specs.Noting.{noted}
use Rattle.runs.proofs.RunLaws.{one-most}
use Rattle.noting.proofs.PlaceLaws.{run-low}
use Rattle.noting.proofs.WordLaws.{odd-noted, none-noted}
use borrow.Author.Rules.{rules}
use Rattle.noting.proofs.with_words.examine_odd.Goals as goal

pub bounds-mem-first : goal.bounds-mem-first
bounds-mem-first c =
    let a = c.args in
    omega (arith, run_ends (length a.mem.now) a.first ((a.count + 1) / 2) a.settings.linear c.requires.linear_value.1, c.if-count-eq1.true)

pub overflow_add-first : goal.overflow_add-first
overflow_add-first c =
    let a = c.args in
    let pre = c.requires in
    let low = run-low a.settings.linear (length a.mem.now) a.first ((a.count + 1) / 2) pre.linear_value.0 pre.linear_value.1 in
    let k : a.first + a.count < 4294967296 = omega (arith, low, pre.end_in_bounds.4) in
    search (rules, k)

pub examine-requires : goal.examine-requires
examine-requires c =
    let a = c.args in
    let pre = c.requires in
    let odd = c.if-count-eq1.true in
    let ends = run_ends (length a.mem.now) a.next.address a.count a.settings.linear pre.linear_value.2 in
    let low = run-low a.settings.linear (length a.mem.now) a.next.address a.count pre.linear_value.0 pre.linear_value.2 in record {
      end_in_bounds = (pre.end_in_bounds.0, pre.end_in_bounds.1, pre.end_in_bounds.2, omega (arith, ends, pre.end_in_bounds.3, odd), omega (arith, pre.end_in_bounds.3, pre.end_in_bounds.4));
      taken_bound = (omega (arith, low, pre.end_in_bounds.3, odd), omega (arith, pre.end_in_bounds.4, pre.end_in_bounds.5));
    }

pub returns-then-count-eq1 : goal.returns-then-count-eq1
returns-then-count-eq1 c =
    let a = c.args in
    let pre = c.requires in
    let odd = c.if-count-eq1.true in
    let e = c.examine in
    let last : a.first + a.count - 1 ≡ a.first + 2 * (a.count / 2) = omega (arith, odd) in
    let put = c.note.ensures ∙ ap (set a.list.now (a.words + a.count / 2 + a.cursor.taken)) last in
    let code = c.high_byte-code.ensures in
    let one = one-most (invokes a.settings.flag c.high_byte-code.result) in record {
      column_le_end = (c.examine.ensures.column_le_end.0, omega (arith, one, c.examine.ensures.column_le_end.2, pre.end_in_bounds.3, odd));
      by_index = λ from. odd-noted a.mem.now a.settings a.room.source a.room.end a.words a.first from a.next a.count (a.count / 2)
          (omega (arith, odd)) pre.linear_value.1 pre.linear_value.2 a.cursor e.result pre.end_in_bounds.3 a.cells.now _ a.list.now _ _ _ refl put
          (rw code at c.examine.ensures.column_le_end.2) (rw code at c.examine.ensures.cells_after) (rw code at c.examine.ensures.list_after) (omega (arith, odd));
    }

pub returns-else-count-eq1 : goal.returns-else-count-eq1
returns-else-count-eq1 c =
    let a = c.args in
    let pre = c.requires in
    let none : a.count - 2 * (a.count / 2) ≡ 0 = omega (arith, c.if-count-eq1.false) in
    let half : a.count / 2 ≡ (a.count + 1) / 2 = omega (arith, c.if-count-eq1.false) in record {
      column_le_end = (pre.end_in_bounds.1, omega (arith, pre.end_in_bounds.3));
      by_index = λ from. none-noted a.mem.now a.settings a.room.source a.room.end (a.words + a.count / 2 + a.cursor.taken) (a.count - 2 * (a.count / 2)) _ _ _ none
          ∙ ap (λ (n : ℕ). noted (given (a.words + n + a.cursor.taken) (so_far (pen_of a.settings.linear a.next a.cursor) a.cells.now)) a.list.now) half;
    }
