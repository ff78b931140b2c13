-- The code goes by the definition's cases: down, in the first lines or later, and up; the lines of a shift and of the screen fit 64 bits.
use mathlib.Core.Path.{◌≡◌, ap, ◌∙◌}
use borrow.Author.Tests.{lt-ltb, le-ltb}
use Prim.Native.Nat.{◌<◌}
use native.Mathlib.Omega.{arith}
use mir.Syntax.{w32}
use mir.ValLaws.{to_z-of_z}
use lib.IntN.{nat_abs}
use lib.Seq.{take-length}
use Rattle.panel.specs.Line.{row_at, background}
use Rattle.panel.proofs.background_of.Goals as goal
use Rattle.panel.proofs.background_of.Goals.{After-lines_of-d}

lines : (c : After-lines_of-d) → c.lines_of-d.result ≡ nat_abs c.args.shift
lines c = rw (to_z-of_z w32 c.args.shift c.ranges.shift) at c.lines_of-d.ensures

pub returns-then-z-d : goal.returns-then-z-d
unfolding background
returns-then-z-d c =
    let first : c.args.y < c.lines_of-d.result = omega arith in
    rw (rw (to_z-of_z w32 c.args.shift c.ranges.shift) at c.if-shift-lt0.true, ← lines (goal.at.returns-then-z-d c).After-lines_of-d, lt-ltb _ _ first) c.above_at.ensures

pub returns-then-shift-lt0 : goal.returns-then-shift-lt0
unfolding background
returns-then-shift-lt0 c =
    rw (rw (to_z-of_z w32 c.args.shift c.ranges.shift) at c.if-shift-lt0.true, ← lines (goal.at.returns-then-shift-lt0 c).After-lines_of-d, le-ltb _ _ c.if-z-d.false) (c.row_at.ensures ∙ ap row_at c.place_of.ensures)

pub returns : goal.returns
unfolding background
returns c =
    let placed = rw (take-length c.args.heights.now) at c.place_of-2.ensures in
    rw (rw (to_z-of_z w32 c.args.shift c.ranges.shift) at c.if-shift-lt0.false, ← lines (goal.at.returns c).After-lines_of-d) (c.row_at-2.ensures ∙ ap row_at placed)
