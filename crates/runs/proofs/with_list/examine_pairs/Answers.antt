-- Each turn examines both codes of a word: what is left to examine from here is the whole segment's.
use mathlib.Core.Path.{◌≡◌, ap, ap₂, ◌∙◌}
use mathlib.Core.List.{List, ◌∷◌}
use Prim.Native.Nat.{ℕ, ◌+◌, ◌-◌, ◌*◌, ◌/◌, ◌<◌}
use native.Mathlib.Omega.{arith}
use lib.ListN.{length, get_or, drop}
use Rattle.memory.specs.Word.{high, low}
use Rattle.memory.specs.Reading.{each, run_from}
use Rattle.memory.proofs.RunLaws.{run_ends}
use Rattle.codes.specs.Attribute.{invokes}
use Rattle.codes.specs.Codes.{examine}
use Rattle.codes.specs.Answers.{so_far}
use Rattle.runs.specs.Runs.{codes_in, pen_of}
use Rattle.runs.proofs.RunLaws.{one-most, codes-pair, listed-step, stretch-length, stretch-word}
use Rattle.runs.proofs.with_list.examine_pairs.Goals as goal

pub loop-w-init : goal.loop-w-init
loop-w-init c =
    let a = c.args in
    let pre = c.requires in
    let d = so_far (pen_of a.settings.linear a.list a.begun) a.cells.now in
    let from : a.at ≡ a.at + 0 = omega arith in
    let left : a.count ≡ a.count - 0 = omega arith in
    let all = ap₂ (λ (p k : ℕ). codes_in (drop p a.mem.now) k) from left in (
      pre.end_in_bounds.1,
      pre.end_in_bounds.2,
      omega (arith, pre.end_in_bounds.3),
      λ n. ap₂ (λ (i : ℕ) (cs : List ℕ). run_from i a.mem.now (each (examine a.settings a.room.source a.room.end) cs d)) (omega (arith, pre.end_in_bounds.3)) all,
    )

pub examine_listed-cursor-requires : goal.examine_listed-cursor-requires
examine_listed-cursor-requires c =
    let a = c.args in
    let pre = c.requires in
    let l = c.loop-w in
    let words = stretch-length a.mem.now a.at (a.count / 2) (omega arith) in
    let ends = run_ends (length a.mem.now) a.list.address a.count a.settings.linear pre.count_in_bounds.1 in
    (omega arith, l.invariant.0, l.invariant.1, omega arith, omega arith)

pub examine_listed-cursor-requires-in-loop-w : goal.examine_listed-cursor-requires-in-loop-w
examine_listed-cursor-requires-in-loop-w c =
    let a = c.args in
    let pre = c.requires in
    let e = c.examine_listed-cursor in
    let words = stretch-length a.mem.now a.at (a.count / 2) (omega arith) in
    let one = one-most (invokes a.settings.flag c.high_byte-first.result) in
    let ends = run_ends (length a.mem.now) a.list.address a.count a.settings.linear pre.count_in_bounds.1 in
    let drawn = e.ensures.column_le_end in
    (omega arith, drawn.0, drawn.1, omega arith, omega arith)

pub loop-w-preserved : goal.loop-w-preserved
loop-w-preserved c =
    let a = c.args in
    let pre = c.requires in
    let l = c.loop-w in
    let e₁ = c.examine_listed-cursor in
    let e₂ = c.examine_listed-cursor-in-loop-w in
    let σ = a.settings in
    let m = a.mem.now in
    let i = l.w-index in
    let test : i < a.count / 2 = omega (arith, stretch-length m a.at (a.count / 2) (omega arith)) in
    let here = stretch-word m a.at (a.count / 2) i test in
    let w = get_or m (a.at + i) 0 in
    let rest = codes_in (drop (a.at + (i + 1)) m) (a.count - 2 * (i + 1)) in
    let first = c.high_byte-first.ensures ∙ ap high here in
    let second = c.low_byte-second.ensures ∙ ap low here in
    let one = one-most (invokes σ.flag c.high_byte-first.result) in
    let two = one-most (invokes σ.flag c.low_byte-second.result) in
    let drawn₁ = e₁.ensures.column_le_end in
    let drawn₂ = e₂.ensures.column_le_end in (
      drawn₂.0,
      drawn₂.1,
      omega arith,
      λ n. l.invariant.3 n
          ∙ ap (λ (cs : List ℕ). run_from (n + l.cursor.taken) m (each (examine σ a.room.source a.room.end) cs (so_far (pen_of σ.linear a.list l.cursor) l.cells)))
          (codes-pair m a.at i a.count (omega arith) (omega arith))
          ∙ listed-step m σ a.room.source a.room.end n a.list a.count (high w) (low w ∷ rest) l.cursor e₁.result l.cells _ pre.count_in_bounds.1 (omega arith)
          (rw first at drawn₁.2) (rw first at e₁.ensures.cells_after)
          ∙ listed-step m σ a.room.source a.room.end n a.list a.count (low w) rest e₁.result e₂.result _ _ pre.count_in_bounds.1 (omega arith)
          (rw second at drawn₂.2) (rw second at e₂.ensures.cells_after),
    )

pub returns : goal.returns
returns c =
    let a = c.args in
    let l = c.loop-w in
    let done : l.w-index ≡ a.count / 2 = omega (arith, stretch-length a.mem.now a.at (a.count / 2) (omega arith)) in
    record { column_le_end = (l.invariant.0, l.invariant.1, omega arith); by_index = λ n. l.invariant.3 n ∙ rw done }
