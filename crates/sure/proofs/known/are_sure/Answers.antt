-- Each turn passes one segment that is sure: whether all are is told by those that are left.
use mathlib.Core.Path.{sym, ◌∙◌}
use mathlib.Core.Bool.{true}
use native.Mathlib.Omega.{arith}
use Rattle.blocks.proofs.BlockLaws.{segments-all, segments-more, segments-none}
use Rattle.sure.specs.Sure.{sure_all}
use Rattle.sure.proofs.known.are_sure.Goals as goal

pub loop-i-init : goal.loop-i-init
loop-i-init c = rw segments-all

pub returns-then-not-is_sure_segment : goal.returns-then-not-is_sure_segment
unfolding sure_all
returns-then-not-is_sure_segment c =
    let a = c.args in
    let l = c.loop-i in
    let g = segments-more true a.count a.segments.now l.i (omega arith) in
    let s = rw c.segment_at-g.ensures at (sym c.is_sure_segment.ensures ∙ c.if-not-is_sure_segment.true) in
    sym (l.invariant ∙ rw (g, s))

pub loop-i-preserved : goal.loop-i-preserved
unfolding sure_all
loop-i-preserved c =
    let a = c.args in
    let l = c.loop-i in
    let g = segments-more true a.count a.segments.now l.i (omega arith) in
    let s = rw c.segment_at-g.ensures at (sym c.is_sure_segment.ensures ∙ c.if-not-is_sure_segment.false) in
    l.invariant ∙ rw (g, s)

pub returns : goal.returns
unfolding sure_all
returns c =
    let a = c.args in
    let l = c.loop-i in
    sym (l.invariant ∙ rw (segments-none true a.count a.segments.now l.i (omega arith)))
