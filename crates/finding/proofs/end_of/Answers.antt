-- Each turn goes on to the next row; what the frame comes to stays. The loop ends, since fewer lines are left after a row.
use native.Mathlib.Omega.{arith}
use borrow.Author.Rules.{rules}
use Rattle.memory.proofs.Laws.{exit}
use Rattle.finding.proofs.WalkLaws.{end-less, end-turn, end-stops, end-past}
use Rattle.finding.proofs.end_of.Goals as goal

pub returns-in_err-row : goal.returns-in_err-row
returns-in_err-row c =
    let l = c.loop-before in
    rw (exit _ c.from_residual.ensures.1) (end-stops (λ i. (c.type_inv.mem i).fits) l.invariant.1 _ l.invariant.0 (omega arith)
    (rw c.in_err-row.was at c.row.ensures.buffer_after))

pub loop-before-smaller : goal.loop-before-smaller
loop-before-smaller c =
    let l = c.loop-before in
    end-less (λ i. (c.type_inv.mem i).fits) l.invariant.1 _ l.invariant.0 (omega arith)
    (rw c.in_ok-row.was at c.row.ensures.buffer_after)

pub loop-before-preserved : goal.loop-before-preserved
loop-before-preserved c =
    let l = c.loop-before in (
      search rules,
      end-turn (λ i. (c.type_inv.mem i).fits) l.invariant.1 _ l.invariant.0 (omega arith)
          (rw c.in_ok-row.was at c.row.ensures.buffer_after),
    )

pub returns : goal.returns
returns c = end-past (λ i. (c.type_inv.mem i).fits) c.loop-before.invariant.1 (omega arith)
