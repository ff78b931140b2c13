-- With a list, what is left is all; without one, the words stand one after the other.
use mathlib.Core.Path.{refl}
use native.Mathlib.Omega.{arith}
use Rattle.addresses.proofs.PlaceLaws.{length-turn}
use Rattle.addresses.proofs.CodeAddressLaws.{plain-addresses, plain-list}
use Rattle.addresses.proofs.of_codes.put_codes.Goals as goal

pub put_run-requires : goal.put_run-requires
put_run-requires c =
    let a = c.args in
    let fits = rw (plain-addresses a.settings a.mem.now a.l c.if-l.false a.n a.p, length-turn) at c.requires in
    (omega arith, omega arith)

pub returns-else-l : goal.returns-else-l
returns-else-l c =
    let a = c.args in
    let no = c.if-l.false in
    rw (plain-addresses a.settings a.mem.now a.l no a.n a.p, plain-list a.settings a.mem.now a.l no a.n a.p, length-turn)
    (record {
      value = refl;
      list_after = c.put_run.ensures;
    })
