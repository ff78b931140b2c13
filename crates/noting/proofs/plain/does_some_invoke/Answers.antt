-- Each turn looks at one word more: what the words past it say, joined to what was found, is what all eight say.
use Rattle.std.proofs.Common.{◌<◌, sym, ◌∙◌, arith}
use Rattle.runs.proofs.RunLaws.{stretch-length, stretch-word}
use Rattle.noting.proofs.PlainLaws.{some-begun, some_more, some-done}
use Rattle.noting.proofs.plain.does_some_invoke.Goals as goal

pub loop-w-init : goal.loop-w-init
loop-w-init c = some-begun _ _ _ 8

pub loop-w-preserved : goal.loop-w-preserved
loop-w-preserved c =
    let a = c.args in
    let l = c.loop-w in
    let test : l.w-index < 8 = omega (arith, stretch-length a.mem.now a.from 8 c.requires) in
    l.invariant
    ∙ some_more _ _ l.some _ 8 l.w-index test
    ∙ rw (
      c.invokes.ensures,
      c.low_byte.ensures,
      c.invokes-first.ensures,
      c.high_byte.ensures,
      stretch-word a.mem.now a.from 8 l.w-index test,
    )

pub returns : goal.returns
returns c =
    let a = c.args in
    let l = c.loop-w in
    sym (l.invariant ∙ some-done _ _ l.some _ 8 l.w-index (omega (arith, stretch-length a.mem.now a.from 8 c.requires)))
