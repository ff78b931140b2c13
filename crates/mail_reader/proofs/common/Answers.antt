-- The first i bytes are the same, and what the texts share is these and what they share from i on.
use native.Mathlib.Omega.{arith}
use Rattle.mail_reader.proofs.CommonLaws.{same_byte, other_byte, one-ends}
use Rattle.mail_reader.proofs.common.Goals as goal

pub returns-then-fixed-i : goal.returns-then-fixed-i
returns-then-fixed-i c =
    let l = c.loop-i in
    let a = c.args in
    omega (arith, other_byte a.fixed.now a.text.now l.i (omega arith) (omega arith) c.if-fixed-i.true)

pub loop-i-preserved : goal.loop-i-preserved
loop-i-preserved c =
    let l = c.loop-i in
    let a = c.args in
    omega (arith, same_byte a.fixed.now a.text.now l.i (omega arith) (omega arith) c.if-fixed-i.false)

pub returns : goal.returns
returns c =
    let l = c.loop-i in
    let a = c.args in
    omega (arith, one-ends a.fixed.now a.text.now l.i (omega arith))
