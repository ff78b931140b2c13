-- A place is a boundary of all segments where it is one of those from i on, which begin at `at`; a width is a byte.
use mathlib.Core.Path.{sym, ◌∙◌}
use native.Mathlib.Omega.{arith}
use borrow.Author.Tests.{eq-eqb, ne_eqb}
use Rattle.blocks.proofs.BlockLaws.{segments-all, segments-more, segments-none}
use Rattle.layout.specs.Layout.{boundary}
use Rattle.layout.proofs.LayoutLaws.{width-byte}
use borrow.Author.Rules.{rules}
use Rattle.layout.proofs.is_boundary.Goals as goal

pub loop-i-init : goal.loop-i-init
loop-i-init c = (omega arith, rw segments-all)

pub returns-then-at-place : goal.returns-then-at-place
unfolding boundary
returns-then-at-place c =
    let l = c.loop-i in
    let a = c.args in
    let g = segments-more a.linear a.count a.words.now l.i (omega arith) in
    sym (l.invariant.1 ∙ rw (g, eq-eqb _ _ c.if-at-place.true))

pub overflow_add-at : goal.overflow_add-at
overflow_add-at c =
    let s = c.segment_at in
    omega (arith, width-byte c.args.hidden s.result (search rules) (search rules))

pub loop-i-preserved : goal.loop-i-preserved
unfolding boundary
loop-i-preserved c =
    let l = c.loop-i in
    let a = c.args in
    let s = c.segment_at in
    let g = segments-more a.linear a.count a.words.now l.i (omega arith) in (
      omega (arith, width-byte a.hidden s.result (search rules) (search rules)),
      l.invariant.1 ∙ rw (g, ne_eqb _ _ c.if-at-place.false, c.width-at.ensures, s.ensures),
    )

pub returns : goal.returns
unfolding boundary
returns c =
    let l = c.loop-i in
    let a = c.args in
    sym (l.invariant.1 ∙ rw (segments-none a.linear a.count a.words.now l.i (omega arith)))
