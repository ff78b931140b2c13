-- The codes before one that invokes all have the latch; those that are left read on from where they end.
use mathlib.Core.Path.{◌≡◌, ap, ap₂, ◌∙◌}
use mathlib.Core.Bool.{◌&&◌}
use Prim.Native.Nat.{◌+◌, ◌-◌, ◌*◌, ◌/◌}
use native.Mathlib.Omega.{arith}
use lib.ListN.{length}
use Rattle.memory.proofs.RunLaws.{run_ends}
use Rattle.codes.specs.declared.AttributeList.{AttributeList}
use Rattle.codes.specs.Answers.{so_far}
use Rattle.noting.specs.Noting.{some_invoke}
use Rattle.noting.proofs.PlaceLaws.{run-low, run-part}
use Rattle.noting.proofs.PlainLaws.{run-split}
use Rattle.noting.proofs.draw_listed.Goals as goal

pub plain_words-k-requires : goal.plain_words-k-requires
plain_words-k-requires c =
    let a = c.args in
    let pre = c.requires in
    (omega (arith, run_ends (length a.mem.now) a.first ((a.count + 1) / 2) a.settings.linear pre.linear_value.1), omega arith)

pub overflow_add-first : goal.overflow_add-first
overflow_add-first c =
    let a = c.args in
    let pre = c.requires in
    omega (arith, run-low a.settings.linear (length a.mem.now) a.first ((a.count + 1) / 2) pre.linear_value.0 pre.linear_value.1)

pub draw_words-requires : goal.draw_words-requires
draw_words-requires c =
    let a = c.args in
    let pre = c.requires in
    let front = c.draw_front-drawn in
    let plain = c.plain_words-k in
    let k = plain.result in
    let few = c.plain_words-k.ensures.0 in
    let left = a.count - 2 * k in
    let part = run-part a.settings.linear (length a.mem.now) in
    let list = c.draw_front-drawn.ensures.column_le_end.2 in record {
      end_in_bounds = (
        omega (arith, front.auto.cells, pre.end_in_bounds.0),
        c.draw_front-drawn.ensures.column_le_end.0,
        omega (arith, pre.end_in_bounds.2),
        omega (arith, c.draw_front-drawn.ensures.column_le_end.1, few, pre.end_in_bounds.2, pre.end_in_bounds.3),
      );
      linear_value = (
        pre.linear_value.0,
        part a.first ((a.count + 1) / 2) (a.first + 2 * k) ((left + 1) / 2) pre.linear_value.0 pre.linear_value.1 (omega (arith, few)),
        ap (λ (l : AttributeList). l.present) list ∙ pre.linear_value.2,
        part a.pen.list.next.address a.count front.result.pen.list.next.address left pre.linear_value.0 pre.linear_value.3
            (omega (arith, ap (λ (l : AttributeList). l.next.address) list)),
      );
    }

pub returns : goal.returns
returns c =
    let a = c.args in
    let pre = c.requires in
    let k = c.plain_words-k.result in
    let few = c.plain_words-k.ensures.0 in
    let front = c.draw_front-drawn.ensures in
    let words = c.draw_words.ensures in record {
      column_le_end = (c.draw_words.ensures.column_le_end.0, omega (arith, c.draw_words.ensures.column_le_end.1, c.draw_front-drawn.ensures.column_le_end.1, few));
      by_index = λ from.
          run-split a.settings a.room.source a.room.end a.words a.mem.now a.list.now k a.count a.first from
          (so_far a.pen a.cells.now) pre.linear_value.1 (omega (arith, few)) (c.draw_front-drawn.ensures.by_index from)
          ∙ c.draw_words.ensures.by_index from;
    }

pub draw_front-drawn-requires-clause-linear_value : goal.draw_front-drawn-requires-clause-linear_value
draw_front-drawn-requires-clause-linear_value c =
    let a = c.args in
    let pre = c.requires in
    let plain = c.plain_words-k.ensures in
    let k = c.plain_words-k.result in
    let half : (2 * k + 1) / 2 ≡ k = omega arith in
    let part = run-part a.settings.linear (length a.mem.now) a.first ((a.count + 1) / 2) a.first ((2 * k + 1) / 2) in
    let none = ap (some_invoke a.settings.flag a.mem.now (a.first / 2)) half ∙ plain.1 in
    (pre.linear_value.0, part pre.linear_value.0 pre.linear_value.1 (omega arith), ap₂ (◌&&◌) pre.linear_value.2 none)
