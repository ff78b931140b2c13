-- The loop's invariant: the cells before column x are those of the line. Each test of the code is one of `show_call`'s.
use mathlib.Core.Path.{◌≡◌, refl, sym, ap, ◌∙◌}
use mathlib.Core.Bool.{◌&&◌}
use Prim.Native.Nat.{ℕ}
use native.Mathlib.Omega.{arith}
use borrow.Author.Tests.{eq-eqb, ne_eqb}
use lib.Seq.{take_all}
use Rattle.panel.specs.Shown.{layer, sized, cells_from, shown, show_call}
use Rattle.panel.proofs.CellLaws.{cells-next, shown-columns}
use Rattle.panel.proofs.show.Invariants.{columns}
use Rattle.panel.proofs.show.Goals as goal
use Rattle.panel.proofs.show.Goals.{After-is_sized-3}

-- the three tests of counts, and what they gave
counts : (c : After-is_sized-3)
    → (sized c.args.still.now && sized c.args.gliding.now && sized c.args.behind.now) ≡ (c.is_sized.result && c.is_sized-2.result && c.is_sized-3.result)
counts c = λ i. sym c.is_sized.ensures i && sym c.is_sized-2.ensures i && sym c.is_sized-3.ensures i

pub returns-then-not-is_sized : goal.returns-then-not-is_sized
unfolding show_call
returns-then-not-is_sized c = rw (counts (goal.at.returns-then-not-is_sized c).After-is_sized-3, c.if-not-is_sized.true)

pub returns-then-cells-ne132 : goal.returns-then-cells-ne132
unfolding show_call
returns-then-cells-ne132 c =
    rw (counts (goal.at.returns-then-cells-ne132 c).After-is_sized-3, c.if-not-is_sized.false, ne_eqb _ _ c.if-cells-ne132.true)

pub loop-x-init : goal.loop-x-init
unfolding cells_from
loop-x-init c = refl

pub loop-x-preserved : goal.loop-x-preserved
loop-x-preserved c =
    let l = c.loop-x in
    rw c.shown_in.ensures (cells-next _ l.cells l.x (omega arith) l.invariant)

pub returns : goal.returns
unfolding show_call
returns c =
    let l = c.loop-x in
    let a = c.args in
    let s = layer a.still.now a.still_columns in
    let b = layer a.gliding.now a.gliding_columns in
    let cells = columns a.still.now a.still_columns a.gliding.now a.gliding_columns a.behind.now in
    let all : l.x ≡ 132 = omega (arith, c.if-cells-ne132.false) in
    let done : l.cells ≡ shown s b a.behind.now =
    sym (take_all l.x l.cells (omega arith)) ∙ l.invariant ∙ ap (λ (k : ℕ). cells_from cells k 0) all ∙ sym (shown-columns s b a.behind.now) in
    rw (counts (goal.at.returns c).After-is_sized-3, c.if-not-is_sized.false, eq-eqb _ _ c.if-cells-ne132.false, done)
