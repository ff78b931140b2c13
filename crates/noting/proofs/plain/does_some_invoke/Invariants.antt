use mathlib.Core.Path.{◌≡◌}
use mathlib.Core.Bool.{◌||◌}
use Prim.Native.Nat.{◌+◌, ◌-◌}
use Rattle.noting.specs.Noting.{some_invoke}
use Rattle.noting.proofs.plain.does_some_invoke.Given as goal

abbrev pub invariant-loop-w : goal.invariant-loop-w
invariant-loop-w l = some_invoke l.flag l.mem l.from 8 ≡ l.some || some_invoke l.flag l.mem (l.from + l.w-index) (8 - l.w-index)
