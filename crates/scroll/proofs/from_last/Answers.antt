-- The direction is the last one or turned; a scroll in range has at most 31 lines and phase 7.
use mathlib.Core.Path.{◌≡◌}
use native.Mathlib.Omega.{arith}
use Rattle.std.proofs.Common.{w32}
use mir.Val.{to_z, of_z}
use mir.ValLaws.{to_z-of_z}
use borrow.Author.Tests.{eq-eqb, ne_eqb}
use Rattle.scroll.specs.Scroll.{from_last}
use Rattle.scroll.proofs.ShiftLaws.{in-range}
use borrow.Author.Rules.{rules}
use Rattle.scroll.proofs.from_last.Goals as goal

pub lines_of-requires : goal.lines_of-requires
lines_of-requires c =
    let z = c.args.last.shift in
    rw (to_z-of_z w32 z (record { sfits = c.type_inv.last.0.1 })) (in-range _ c.requires).0

pub returns-then-last-direction_of : goal.returns-then-last-direction_of
unfolding from_last
returns-then-last-direction_of c =
    let a = c.args in
    let same : to_z w32 (of_z w32 a.last.shift) ≡ a.last.shift = search rules in
    let h = in-range a.last c.requires in
    let t = rw c.direction_of.ensures at c.if-last-direction_of.true in
    rw (c.lines_of.ensures, same) (rw (eq-eqb _ _ t), record { lines = h.0; phase = h.1 })

pub returns-else-last-direction_of : goal.returns-else-last-direction_of
unfolding from_last
returns-else-last-direction_of c =
    let t = rw c.direction_of.ensures at c.if-last-direction_of.false in
    (rw (ne_eqb _ _ t), record { lines = omega arith; phase = omega arith })
