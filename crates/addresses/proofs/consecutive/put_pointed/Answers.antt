-- A null pointer has no words; another has a run.
use mathlib.Core.Path.{refl}
use native.Mathlib.Omega.{arith}
use Rattle.addresses.proofs.PlaceLaws.{length-turn, pointed-null, pointed-run}
use Rattle.addresses.proofs.consecutive.put_pointed.Goals as goal

pub returns-then-p-eq0 : goal.returns-then-p-eq0
returns-then-p-eq0 c =
    let a = c.args in
    rw (pointed-null a.linear a.n a.p c.if-p-eq0.true) (record {
      value = omega arith;
      list_after = refl;
    })

pub put_run-requires : goal.put_run-requires
put_run-requires c =
    let a = c.args in
    let pre = rw (pointed-run a.linear a.n a.p c.if-p-eq0.false, length-turn a.linear a.n a.p.address) at c.requires in
    (pre.0, pre.1)

pub returns : goal.returns
returns c =
    let a = c.args in
    rw (pointed-run a.linear a.n a.p c.if-p-eq0.false, length-turn a.linear a.n a.p.address)
    (record {
      value = refl;
      list_after = c.put_run.ensures;
    })
