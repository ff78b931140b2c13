-- Each turn adds the width of one segment: the sum so far and the widths that are left make the whole.
use mathlib.Core.Path.{refl, sym, ◌∙◌}
use mathlib.Core.Bool.{true}
use native.Mathlib.Nat.{add_assoc, add-zero}
use native.Mathlib.Omega.{arith}
use Rattle.blocks.proofs.BlockLaws.{segments-all, segments-more, segments-none}
use Rattle.layout.specs.Layout.{total}
use Rattle.layout.proofs.LayoutLaws.{width-byte}
use borrow.Author.Rules.{rules}
use Rattle.sure.proofs.known.fills_row.Goals as goal

pub loop-i-init : goal.loop-i-init
loop-i-init c = (omega arith, rw segments-all (omega arith))

pub overflow_add-sum : goal.overflow_add-sum
overflow_add-sum c =
    let s = c.segment_at in
    let byte = width-byte c.args.hidden s.result (search rules) (search rules) in
    omega (arith, byte, c.width-sum.ensures)

pub loop-i-preserved : goal.loop-i-preserved
unfolding total
loop-i-preserved c =
    let l = c.loop-i in
    let a = c.args in
    let s = c.segment_at in
    let g = segments-more true a.count a.segments.now l.i (omega arith) in (
      omega (arith, width-byte a.hidden s.result (search rules) (search rules), c.width-sum.ensures),
      l.invariant.1 ∙ rw (g, c.width-sum.ensures, s.ensures) (sym (add_assoc l.sum _ _)),
    )

pub returns : goal.returns
unfolding total
returns c =
    let l = c.loop-i in
    let a = c.args in
    let g = segments-none true a.count a.segments.now l.i (omega arith) in
    rw (c.if-not-flag.false, l.invariant.1, g, add-zero) refl
