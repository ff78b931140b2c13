-- One word more each turn, as long as it has no code that invokes.
use Rattle.std.proofs.Common.{◌≡◌, arith}
use Rattle.noting.proofs.PlainLaws.{some-none, some_one}
use Rattle.noting.proofs.plain.last_plain.Goals as goal

pub loop-i-preserved : goal.loop-i-preserved
loop-i-preserved c =
    let both =
    rw (
      c.invokes.ensures,
      c.low_byte.ensures,
      c.invokes-first.ensures,
      c.high_byte.ensures,
    ) at c.if-first-invokes.false in
    some-none _ _ _ c.loop-i.i 1 c.loop-i.invariant (some_one _ _ _ both)

pub returns : goal.returns
returns c =
    let done : c.loop-i.i ≡ c.args.words = omega arith in
    (omega arith, rw done at c.loop-i.invariant)
