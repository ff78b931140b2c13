-- Each turn counts both codes of a word: the codes left from here, with the sum so far, are all of them.
use mathlib.Core.Path.{◌≡◌}
use Prim.Native.Nat.{◌+◌, ◌-◌, ◌*◌, ◌/◌}
use native.Mathlib.Omega.{arith}
use native.Mathlib.Nat.{sub-zero, add-zero, zero-add}
use Rattle.latch.proofs.RowLatchLaws.{invoking-more, invoking-one, invoking-none}
use Rattle.latch.proofs.segment.count_invoking.Goals as goal

pub loop-i-init : goal.loop-i-init
loop-i-init c = (omega arith, rw (add-zero, sub-zero, zero-add))

pub loop-i-preserved : goal.loop-i-preserved
loop-i-preserved c =
    let a = c.args in
    let l = c.loop-i in
    let next : a.at + l.i + 1 ≡ a.at + (l.i + 1) = omega arith in
    let more = rw next at (invoking-more a.flag a.mem.now (a.at + l.i) (a.n - 2 * l.i) (a.n - 2 * (l.i + 1)) (omega arith)) in (
      omega arith,
      rw (c.takes.ensures.0, c.takes-in-loop-i.ensures.0, c.high_byte.ensures, c.low_byte.ensures) (omega arith),
    )

pub returns-then-n-eq1 : goal.returns-then-n-eq1
returns-then-n-eq1 c =
    let a = c.args in
    let l = c.loop-i in
    let half : l.i ≡ a.n / 2 = omega arith in
    rw (c.takes-then-n-eq1.ensures.0, c.high_byte-then-n-eq1.ensures, ← half) (omega (arith, invoking-one a.flag a.mem.now (a.at + l.i) (a.n - 2 * l.i) (omega arith)))

pub returns-else-n-eq1 : goal.returns-else-n-eq1
returns-else-n-eq1 c =
    let a = c.args in
    let l = c.loop-i in
    omega (arith, invoking-none a.flag a.mem.now (a.at + l.i) (a.n - 2 * l.i) (omega arith))
