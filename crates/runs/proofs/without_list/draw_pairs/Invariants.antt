use mathlib.Core.Path.{◌≡◌}
use mathlib.Core.Bool.{Bool, true, ◌||◌, not}
use Prim.Native.Nat.{ℕ, ◌+◌, ◌-◌, ◌*◌, ◌≤◌}
use lib.ListN.{length, drop}
use Rattle.codes.specs.declared.Source.{Source}
use Rattle.codes.specs.Attribute.{ignores, cell}
use Rattle.codes.specs.Codes.{moved_to}
use Rattle.codes.specs.Answers.{so_far}
use Rattle.runs.specs.Runs.{codes_in, characters}
use Rattle.runs.proofs.without_list.draw_pairs.Given as goal

abbrev pub invariant-loop-i : goal.invariant-loop-i
invariant-loop-i l =
    ((hidden : Bool) (source : Source) (end count : ℕ) → l.bits ≡ cell source l.pen.latch 0 → hidden || not (ignores l.pen.latch) ≡ true → end ≤ length l.initial.cells → l.column + 2 * l.pairs ≤ end → 2 * l.pairs ≤ count
    → characters hidden source end l.pen.latch (codes_in (drop l.at l.mem) count) (so_far l.pen l.initial.cells)
    ≡ characters hidden source end l.pen.latch (codes_in (drop (l.at + l.i) l.mem) (count - 2 * l.i)) (so_far (moved_to (l.column + 2 * l.i) l.pen) l.cells))
