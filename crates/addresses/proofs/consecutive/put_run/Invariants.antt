use mathlib.Core.Path.{◌≡◌}
use Prim.Native.Nat.{◌≤◌, ◌+◌, ◌-◌}
use lib.ListN.{length}
use lib.Seq.{sets}
use Rattle.memory.specs.Address.{ahead}
use Rattle.noting.specs.Noting.{in_turn}
use Rattle.addresses.proofs.consecutive.put_run.Given as goal

abbrev pub invariant-loop-i : goal.invariant-loop-i
invariant-loop-i l =
    (length l.list ≡ length l.initial.list) × (sets l.initial.list l.at (in_turn l.linear l.n l.a) ≡ sets l.list (l.at + l.i) (in_turn l.linear (l.n - l.i) (ahead l.linear l.i l.a)))
