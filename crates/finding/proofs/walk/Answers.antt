-- Each turn goes on to the next row, with the lines before it passed. The loop ends, since fewer lines are left after a row.
use native.Mathlib.Omega.{arith}
use borrow.Author.Rules.{rules}
use Rattle.finding.proofs.WalkLaws.{past, stops, finds, less, turn}
use Rattle.finding.proofs.walk.Goals as goal

pub returns-in-Err : goal.returns-in-Err
returns-in-Err c =
    let l = c.loop-before in
    stops (λ i. (c.type_inv.mem i).fits) l.invariant.1 _ l.invariant.0 (omega arith)
    (rw c.in-Err.is at c.row.ensures.buffer_after)

pub returns-then-line-height : goal.returns-then-line-height
returns-then-line-height c =
    let l = c.loop-before in
    finds (λ i. (c.type_inv.mem i).fits) l.invariant.1 _ l.invariant.0 (omega arith)
    (rw c.in-Ok.is at c.row.ensures.buffer_after) (omega arith)

pub loop-before-smaller : goal.loop-before-smaller
loop-before-smaller c =
    let l = c.loop-before in
    less (λ i. (c.type_inv.mem i).fits) l.invariant.1 _ l.invariant.0 (omega arith)
    (rw c.in-Ok.is at c.row.ensures.buffer_after)

pub loop-before-preserved : goal.loop-before-preserved
loop-before-preserved c =
    let l = c.loop-before in (
      search rules,
      turn (λ i. (c.type_inv.mem i).fits) l.invariant.1 _ l.invariant.0 (omega arith)
          (rw c.in-Ok.is at c.row.ensures.buffer_after) (omega arith),
    )

pub returns : goal.returns
returns c = past (λ i. (c.type_inv.mem i).fits) c.loop-before.invariant.1 (omega arith)
