-- The main block, then the first window's.
use mathlib.Core.Path.{ap, sym, ◌∙◌}
use mathlib.Core.List.{List}
use Prim.Native.Nat.{ℕ, ◌+◌}
use native.Mathlib.Omega.{arith}
use lib.ListN.{length}
use lib.Seq.{sets}
use Rattle.start.specs.Top.{registered}
use Rattle.addresses.specs.Addresses.{pointed, start_addresses}
use Rattle.addresses.proofs.PlaceLaws.{sets-append, pointed-short}
use Rattle.addresses.proofs.put_start.Goals as goal

pub put_pointed-at-requires : goal.put_pointed-at-requires
put_pointed-at-requires c =
    let a = c.args in
    let top = registered a.settings.linear a.settings.top in
    let tow = registered a.settings.linear a.settings.tow in
    (rw c.pointer_of-top.ensures (omega (arith, c.requires, pointed-short a.settings.linear 7 top)), omega arith)

pub put_pointed-requires : goal.put_pointed-requires
put_pointed-requires c =
    let a = c.args in
    let top = registered a.settings.linear a.settings.top in
    let tow = registered a.settings.linear a.settings.tow in
    let r = rw c.pointer_of-top.ensures at c.put_pointed-at.ensures.value in
    (rw (r, c.pointer_of-tow.ensures) (omega (arith, c.requires, pointed-short a.settings.linear 7 top, pointed-short a.settings.linear 6 tow, c.put_pointed-at.auto.list)), omega arith)

pub returns : goal.returns
unfolding start_addresses
returns c =
    let a = c.args in
    let top = registered a.settings.linear a.settings.top in
    let tow = registered a.settings.linear a.settings.tow in
    let x = pointed a.settings.linear 7 top in
    let y = pointed a.settings.linear 6 tow in
    let r = rw c.pointer_of-top.ensures at c.put_pointed-at.ensures in
    rw (r.value, c.pointer_of-tow.ensures) at c.put_pointed.ensures.list_after
    ∙ ap (λ (k : List ℕ). sets k (0 + length x) y) r.list_after
    ∙ sym (sets-append a.list.now 0 x y)
