-- Each turn passes one segment, walked where it is on the side: what the rest from here comes to is what the whole side does.
use Prim.Native.Nat.{◌<◌}
use native.Mathlib.Omega.{arith}
use Rattle.memory.proofs.Laws.{exit}
use Rattle.blocks.proofs.BlockLaws.{segments-all}
use Rattle.layout.proofs.LayoutLaws.{width-byte}
use Rattle.marking.proofs.MarkLaws.{kept-still, kept-on}
use Rattle.marking.proofs.CodeLaws.{side-none, side-halted, side-more}
use borrow.Author.Rules.{rules}
use Rattle.marking.proofs.marked.Marked.walk_side.Goals as goal

pub loop-i-init : goal.loop-i-init
loop-i-init c = record { kept = kept-still _; place = omega arith; column = omega arith; rest = λ r source h cs. rw segments-all at (h cs) }

pub returns-in_err-current-clause-follows : goal.returns-in_err-current-clause-follows
returns-in_err-current-clause-follows c = λ source.
    let l = c.loop-i in
    rw (exit _ c.from_residual.ensures.1)
    (l.invariant.rest _ source (λ cs.
    side-halted _ _ _ _ _ _ _ _ _ _ _ cs c.loop-i-test.true
    (rw (c.in_err-current.was, c.on_side-chosen.ensures, c.width-w.ensures, c.segment_at-g.ensures, l.invariant.kept.mem) at (c.walk_chosen.ensures.follows source cs))))

pub overflow_add-at : goal.overflow_add-at
overflow_add-at c =
    let small : c.args.segments.count.number < 256 = search rules in
    let g = c.segment_at-g in
    omega (arith, width-byte c.args.settings.codes.hidden g.result g.type_inv.1.1.1.1.0.1 g.type_inv.1.1.1.1.1.0.1)

pub loop-i-preserved : goal.loop-i-preserved
loop-i-preserved c =
    let l = c.loop-i in
    let g = c.segment_at-g in
    let w = width-byte c.args.settings.codes.hidden g.result g.type_inv.1.1.1.1.0.1 g.type_inv.1.1.1.1.1.0.1 in
    let reached = rw c.in_ok-current.was at c.walk_chosen.ensures.up_to in record {
      kept = kept-on l.invariant.kept c.walk_chosen.ensures.kept;
      place = omega arith;
      column = omega arith;
      rest = λ r source k. l.invariant.rest r source (λ cs.
          side-more _ _ _ _ _ _ _ _ _ _ _ cs c.loop-i-test.true
          (rw (c.in_ok-current.was, c.on_side-chosen.ensures, c.width-w.ensures, c.segment_at-g.ensures, l.invariant.kept.mem) at (c.walk_chosen.ensures.follows source cs))
          (λ ds. rw (c.width-w.ensures, c.segment_at-g.ensures) at (k ds)));
    }

pub returns-clause-follows : goal.returns-clause-follows
returns-clause-follows c = λ source. c.loop-i.invariant.rest _ source (λ cs. side-none _ _ _ _ _ _ _ _ _ _ _ cs (omega arith))
