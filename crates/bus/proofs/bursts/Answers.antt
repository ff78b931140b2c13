-- The tests are the definition's, and each way out gives its case; a quotient is at most what is divided.
use mathlib.Core.Path.{sym}
use Prim.Native.Nat.{◌+◌, ◌-◌, ◌%◌}
use native.Mathlib.Omega.{arith}
use native.Mathlib.Nat.{div-le_self}
use Rattle.bus.proofs.BusLaws.{no_words, kept-bus, rounded-up}
use Rattle.bus.proofs.bursts.Goals as goal

pub returns-then-words-eq0 : goal.returns-then-words-eq0
returns-then-words-eq0 c = (sym (rw c.if-words-eq0.true (no_words c.args.burst)), omega arith)

pub returns-then-burst-eq0 : goal.returns-then-burst-eq0
returns-then-burst-eq0 c =
    let a = c.args in
    (sym (kept-bus a.burst a.words c.if-words-eq0.false c.if-burst-eq0.true), omega arith)

pub returns : goal.returns
returns c =
    let a = c.args in
    (sym (rounded-up a.burst a.words c.if-words-eq0.false c.if-burst-eq0.false), omega (arith, div-le_self (a.words + (a.burst % 256 - 1)) (a.burst % 256)))
