use mathlib.Core.Path.{◌≡◌}
use lib.ListN.{drop}
use Rattle.numbers.specs.Places.{within}
use Rattle.numbers.proofs.decode.within.Given as goal

abbrev pub invariant-loop-i : goal.invariant-loop-i
invariant-loop-i l = within l.limits l.numbers ≡ within (drop l.i l.limits) (drop l.i l.numbers)
