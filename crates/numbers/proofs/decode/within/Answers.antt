-- Before place i the numbers are within their limits, so `within` of all the places is `within` of those from i on: a number above its
-- limit ends it with no, the end of both with yes. Slices of two lengths are never within.
use mathlib.Core.Path.{sym, ◌∙◌}
use native.Mathlib.Omega.{arith}
use Rattle.numbers.proofs.PlaceLaws.{other-size, place-within, place-above, no_place}
use Rattle.numbers.proofs.decode.within.Goals as goal

pub returns-then-numbers-limits : goal.returns-then-numbers-limits
returns-then-numbers-limits c = other-size _ _ c.if-numbers-limits.true

pub returns-then-limits-i : goal.returns-then-limits-i
returns-then-limits-i c =
    let l = c.loop-i in
    sym (l.invariant ∙ place-above _ _ l.i (omega arith) (omega arith) c.if-limits-i.true)

pub loop-i-preserved : goal.loop-i-preserved
loop-i-preserved c =
    let l = c.loop-i in
    l.invariant ∙ place-within _ _ l.i (omega arith) (omega arith) c.if-limits-i.false

pub returns : goal.returns
returns c =
    let l = c.loop-i in
    sym (l.invariant ∙ no_place _ _ l.i (omega arith) (omega arith))
