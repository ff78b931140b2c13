-- The test is the rule's.
use Prim.Native.Nat.{◌≤◌, ◌<◌}
use native.Mathlib.Omega.{arith}
use borrow.Author.Tests.{le-leb, lt-leb}
use Rattle.scroll.specs.Scroll.{reached}
use Rattle.scroll.proofs.reached.Goals as goal

pub returns-then-lines-g : goal.returns-then-lines-g
unfolding reached
returns-then-lines-g c =
    let a = c.args in
    let over : a.lines ≤ a.g.lines = omega (arith, c.if-lines-g.true) in
    rw (c.shifted.ensures, le-leb _ _ over)

pub returns-else-lines-g : goal.returns-else-lines-g
unfolding reached
returns-else-lines-g c =
    let a = c.args in
    let short : a.g.lines < a.lines = omega (arith, c.if-lines-g.false) in
    rw (c.shifted-else-lines-g.ensures, lt-leb _ _ short)
