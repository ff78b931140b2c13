use mathlib.Core.Path.{◌≡◌}
use Prim.Native.Nat.{◌+◌}
use lib.ListN.{length}
use lib.Seq.{sets}
use Rattle.addresses.specs.Listed.{list_from}
use Rattle.addresses.specs.Addresses.{code_addresses, code_list}
use Rattle.addresses.proofs.of_listed.put_rest.Given as goal

abbrev pub invariant-loop-left : goal.invariant-loop-left
invariant-loop-left l =
    (length l.list ≡ length l.initial.list)
    × (l.initial.place + length (code_addresses l.settings l.mem l.initial.left l.initial.here (list_from l.initial.next)) ≡ l.place + length (code_addresses l.settings l.mem l.left l.here (list_from l.next)))
    × (code_list l.settings l.mem l.initial.left l.initial.here (list_from l.initial.next) ≡ code_list l.settings l.mem l.left l.here (list_from l.next))
    × (sets l.initial.list l.initial.place (code_addresses l.settings l.mem l.initial.left l.initial.here (list_from l.initial.next)) ≡ sets l.list l.place (code_addresses l.settings l.mem l.left l.here (list_from l.next)))

abbrev pub decreases-loop-left : goal.decreases-loop-left
decreases-loop-left l = l.left
