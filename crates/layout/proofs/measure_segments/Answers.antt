-- Check 9 and the sum so far, with those of the segments from i on, are those of all; a width is a byte, so no sum is too large.
use mathlib.Core.Path.{sym, ◌∙◌}
use mathlib.Core.Bool.{and_assoc, and-true}
use native.Mathlib.Nat.{add_assoc, add-zero}
use native.Mathlib.Omega.{arith}
use Rattle.blocks.proofs.BlockLaws.{segments-all, segments-more, segments-none}
use Rattle.layout.specs.Layout.{total, all_fit}
use Rattle.layout.proofs.LayoutLaws.{width-byte}
use borrow.Author.Rules.{rules}
use Rattle.layout.proofs.measure_segments.Goals as goal

pub loop-i-init : goal.loop-i-init
loop-i-init c = (omega arith, rw segments-all, rw segments-all (omega arith))

pub overflow_add-sum : goal.overflow_add-sum
overflow_add-sum c =
    let s = c.segment_at-g in
    omega (arith, width-byte c.args.hidden s.result (search rules) (search rules))

pub loop-i-preserved : goal.loop-i-preserved
unfolding all_fit total
loop-i-preserved c =
    let l = c.loop-i in
    let a = c.args in
    let s = c.segment_at-g in
    let g = segments-more a.linear a.count a.words.now l.i (omega arith) in (
      omega (arith, width-byte a.hidden s.result (search rules) (search rules)),
      l.invariant.1 ∙ rw (g, c.fits-fit.ensures, s.ensures) (sym (and_assoc l.fit _ _)),
      l.invariant.2 ∙ rw (g, c.width-sum.ensures, s.ensures) (sym (add_assoc l.sum _ _)),
    )

pub returns : goal.returns
unfolding all_fit total
returns c =
    let l = c.loop-i in
    let a = c.args in
    let g = segments-none a.linear a.count a.words.now l.i (omega arith) in
    rw (l.invariant.1, l.invariant.2, g, and-true, add-zero)
