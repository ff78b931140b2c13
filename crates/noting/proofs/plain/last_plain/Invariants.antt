use mathlib.Core.Path.{◌≡◌}
use mathlib.Core.Bool.{false}
use Rattle.noting.specs.Noting.{some_invoke}
use Rattle.noting.proofs.plain.last_plain.Given as goal

abbrev pub invariant-loop-i : goal.invariant-loop-i
invariant-loop-i l = some_invoke l.flag l.mem l.from l.i ≡ false
