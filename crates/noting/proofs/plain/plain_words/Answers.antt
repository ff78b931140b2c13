-- Eight words more each turn, as long as none of them has a code that invokes; the last ones are as `last_plain` says.
use mathlib.Core.Path.{refl}
use native.Mathlib.Omega.{arith}
use Rattle.noting.specs.Noting.{some_invoke}
use Rattle.noting.proofs.PlainLaws.{some-none}
use Rattle.noting.proofs.plain.plain_words.Goals as goal

pub loop-k-init : goal.loop-k-init
unfolding some_invoke
loop-k-init c = (omega arith, refl)

pub returns-then-does_some_invoke : goal.returns-then-does_some_invoke
returns-then-does_some_invoke c = (omega arith, cc)

pub loop-k-preserved : goal.loop-k-preserved
loop-k-preserved c = (omega arith, some-none _ _ _ _ 8 (cc) (cc))

pub returns-then-k-eq0 : goal.returns-then-k-eq0
unfolding some_invoke
returns-then-k-eq0 c = (omega arith, refl)

pub last_plain-requires : goal.last_plain-requires
last_plain-requires c = (omega arith, omega arith, omega arith, cc)

pub overflow_add-k : goal.overflow_add-k
overflow_add-k c = omega arith
