-- Each turn examines both codes of a word: what is left to read from here, with the list so far, is the whole segment's.
use mathlib.Core.Path.{◌≡◌, ap, ap₂, refl, ◌∙◌}
use Prim.Native.Nat.{ℕ, ◌+◌, ◌-◌, ◌*◌, ◌/◌, ◌≤◌, ◌<◌}
use native.Mathlib.Omega.{arith}
use lib.ListN.{length}
use Rattle.memory.specs.Address.{ahead}
use Rattle.memory.proofs.RunLaws.{run_ends}
use Rattle.memory.specs.Word.{high, low}
use Rattle.codes.specs.Attribute.{invokes}
use Rattle.codes.specs.Codes.{codes}
use Rattle.codes.specs.Answers.{so_far}
use Rattle.runs.specs.Runs.{pen_of}
use Rattle.runs.proofs.RunLaws.{one-most, stretch-length, stretch-word}
use Rattle.noting.specs.Noting.{noting, pointing}
use Rattle.noting.proofs.PlaceLaws.{run-low}
use Rattle.noting.proofs.WordLaws.{pair-noted}
use borrow.Author.Rules.{rules}
use Rattle.noting.proofs.with_words.examine_pairs.Goals as goal

pub loop-i-init : goal.loop-i-init
unfolding ahead
loop-i-init c =
    let a = c.args in
    let pre = c.requires in
    let d = so_far (pen_of a.settings.linear a.next a.begun) a.cells.now in
    let read : a.words ≡ a.words + 0 + a.begun.taken = omega (arith, pre.end_in_bounds.3) in
    let left : a.count ≡ a.count - 0 = omega arith in (
      pre.end_in_bounds.1,
      pre.end_in_bounds.2,
      omega (arith, pre.end_in_bounds.3),
      λ f. ap₂ (λ (n k : ℕ). noting n a.mem.now a.list.now (codes a.settings a.room.source a.room.end k (pointing a.first f) d)) read left,
    )

pub slice_bounds-w-items-end : goal.slice_bounds-w-items-end
slice_bounds-w-items-end c =
    let a = c.args in
    let ends = run_ends (length a.mem.now) a.first ((a.count + 1) / 2) a.settings.linear c.requires.linear_value.1 in
    search (rules, ends)

pub overflow_add-first : goal.overflow_add-first
overflow_add-first c =
    let a = c.args in
    let pre = c.requires in
    let l = c.loop-i in
    let ends = run_ends (length a.mem.now) a.first ((a.count + 1) / 2) a.settings.linear pre.linear_value.1 in
    let test = stretch-length a.mem.now (a.first / 2) (a.count / 2) (omega arith) in
    let low = run-low a.settings.linear (length a.mem.now) a.first ((a.count + 1) / 2) pre.linear_value.0 pre.linear_value.1 in
    let k : a.first + 2 * l.i < 4294967296 = omega arith in
    search (rules, k)

pub overflow_add-at-in-loop-i : goal.overflow_add-at-in-loop-i
overflow_add-at-in-loop-i c =
    let a = c.args in
    let pre = c.requires in
    let l = c.loop-i in
    let ends = run_ends (length a.mem.now) a.first ((a.count + 1) / 2) a.settings.linear pre.linear_value.1 in
    let test = stretch-length a.mem.now (a.first / 2) (a.count / 2) (omega arith) in
    let k : a.words + l.i + l.cursor.taken < 4294967296 = omega arith in
    search (rules, k)

pub examine-cursor-requires : goal.examine-cursor-requires
examine-cursor-requires c =
    let a = c.args in
    let pre = c.requires in
    let l = c.loop-i in
    let words = run_ends (length a.mem.now) a.first ((a.count + 1) / 2) a.settings.linear pre.linear_value.1 in
    let test = stretch-length a.mem.now (a.first / 2) (a.count / 2) (omega arith) in
    let ends = run_ends (length a.mem.now) a.next.address a.count a.settings.linear pre.linear_value.2 in
    let low = run-low a.settings.linear (length a.mem.now) a.next.address a.count pre.linear_value.0 pre.linear_value.2 in record {
      end_in_bounds = (omega arith, l.invariant.0, l.invariant.1, omega arith, omega arith);
      taken_bound = (omega arith, omega arith);
    }

pub examine-cursor-requires-in-loop-i : goal.examine-cursor-requires-in-loop-i
examine-cursor-requires-in-loop-i c =
    let a = c.args in
    let pre = c.requires in
    let l = c.loop-i in
    let e = c.examine-cursor in
    let words = run_ends (length a.mem.now) a.first ((a.count + 1) / 2) a.settings.linear pre.linear_value.1 in
    let test = stretch-length a.mem.now (a.first / 2) (a.count / 2) (omega arith) in
    let one = one-most (invokes a.settings.flag c.high_byte-high.result) in
    let ends = run_ends (length a.mem.now) a.next.address a.count a.settings.linear pre.linear_value.2 in
    let low = run-low a.settings.linear (length a.mem.now) a.next.address a.count pre.linear_value.0 pre.linear_value.2 in
    let drawn = e.ensures.column_le_end in
    let few : e.result.taken ≤ 2 * l.i + 1 = omega arith in record {
      end_in_bounds = (omega arith, drawn.0, drawn.1, omega arith, omega arith);
      taken_bound = (omega arith, omega arith);
    }

pub loop-i-preserved : goal.loop-i-preserved
loop-i-preserved c =
    let a = c.args in
    let pre = c.requires in
    let l = c.loop-i in
    let m = a.mem.now in
    let words = run_ends (length m) a.first ((a.count + 1) / 2) a.settings.linear pre.linear_value.1 in
    let test : l.i < a.count / 2 = omega (arith, stretch-length m (a.first / 2) (a.count / 2) (omega arith)) in
    let here = stretch-word m (a.first / 2) (a.count / 2) l.i test in
    let first = c.high_byte-high.ensures ∙ ap high here in
    let second = c.low_byte-low.ensures ∙ ap low here in
    let e₁ = c.examine-cursor in
    let e₂ = c.examine-cursor-in-loop-i in
    let one = one-most (invokes a.settings.flag c.high_byte-high.result) in
    let two = one-most (invokes a.settings.flag c.low_byte-low.result) in
    let drawn₁ = e₁.ensures.column_le_end in
    let drawn₂ = e₂.ensures.column_le_end in
    let few : e₁.result.taken ≤ 2 * l.i + 1 = omega arith in (
      drawn₂.0,
      drawn₂.1,
      omega arith,
      λ f. l.invariant.3 f
          ∙ pair-noted m a.settings a.room.source a.room.end a.words a.first f a.next a.count l.i
          (omega arith) pre.linear_value.1 pre.linear_value.2 l.cursor e₁.result l.invariant.2 l.cells _ l.list _ _ _ refl c.note.ensures
          (rw first at drawn₁.2) (rw first at e₁.ensures.cells_after) (rw first at e₁.ensures.list_after)
          (omega arith) e₂.result _ _ few (rw second at drawn₂.2) (rw second at e₂.ensures.cells_after) (rw second at e₂.ensures.list_after),
    )

pub returns : goal.returns
returns c =
    let a = c.args in
    let l = c.loop-i in
    let words = run_ends (length a.mem.now) a.first ((a.count + 1) / 2) a.settings.linear c.requires.linear_value.1 in
    let done : l.i ≡ a.count / 2 = omega (arith, stretch-length a.mem.now (a.first / 2) (a.count / 2) (omega arith)) in
    record { column_le_end = (l.invariant.0, l.invariant.1, omega arith); by_index = λ f. l.invariant.3 f ∙ rw done }
