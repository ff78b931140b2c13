-- The sign of the shift chooses the row; the shift is the number of its bits.
use mir.Syntax.{w32}
use mir.ValLaws.{to_z-of_z}
use Rattle.listed_beside.specs.ListedBeside.{beside_listed}
use Rattle.listed_beside.proofs.beside.Goals as goal

pub returns-then-shift-gt0 : goal.returns-then-shift-gt0
unfolding beside_listed
returns-then-shift-gt0 c =
    let u = rw (to_z-of_z w32 c.args.shift c.ranges.shift) at c.if-shift-gt0.true in
    rw u c.row_below.ensures

pub returns-then-shift-lt0 : goal.returns-then-shift-lt0
unfolding beside_listed
returns-then-shift-lt0 c =
    let same = to_z-of_z w32 c.args.shift c.ranges.shift in
    let u = rw same at c.if-shift-gt0.false in
    let d = rw same at c.if-shift-lt0.true in
    rw (u, d) (rw c.with_top.ensures at c.row_above.ensures)

pub returns : goal.returns
unfolding beside_listed
returns c =
    let same = to_z-of_z w32 c.args.shift c.ranges.shift in
    let u = rw same at c.if-shift-gt0.false in
    let d = rw same at c.if-shift-lt0.false in
    rw (u, d)
