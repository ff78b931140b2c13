-- The words are tried from the last one down, and the first found with bit 15 is the last.
use mathlib.Core.Path.{sym, ◌∙◌}
use native.Mathlib.Omega.{arith}
use Rattle.latch.proofs.RowLatchLaws.{latched-turn, latched-none}
use Rattle.latch.proofs.segment.last_latched.Goals as goal

pub returns-then-bit_15 : goal.returns-then-bit_15
returns-then-bit_15 c =
    let l = c.loop-i in
    sym (l.invariant ∙ latched-turn _ _ l.i c.loop-i-test.true ∙ rw (← c.bit_15.ensures, c.if-bit_15.true))

pub loop-i-preserved : goal.loop-i-preserved
loop-i-preserved c =
    let l = c.loop-i in
    l.invariant ∙ latched-turn _ _ l.i c.loop-i-test.true ∙ rw (← c.bit_15.ensures, c.if-bit_15.false)

pub returns : goal.returns
returns c =
    let l = c.loop-i in
    sym (l.invariant ∙ latched-none _ _ l.i (omega arith))
