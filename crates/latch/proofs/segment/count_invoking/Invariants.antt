use mathlib.Core.Path.{◌≡◌}
use Prim.Native.Nat.{◌≤◌, ◌+◌, ◌-◌, ◌*◌}
use Rattle.latch.specs.Latch.{invoking}
use Rattle.latch.proofs.segment.count_invoking.Given as goal

abbrev pub invariant-loop-i : goal.invariant-loop-i
invariant-loop-i l =
    (l.sum ≤ 2 * l.i) × (l.sum + invoking l.flag l.mem (l.at + l.i) (l.n - 2 * l.i) ≡ invoking l.flag l.mem l.at l.n)
