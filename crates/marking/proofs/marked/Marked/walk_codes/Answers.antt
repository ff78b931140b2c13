-- Each turn walks one word with its one or two codes: what the rest from here comes to is what the whole segment does.
use mathlib.Core.Path.{◌≡◌, refl}
use Prim.Native.Nat.{◌+◌, ◌-◌, ◌*◌, min}
use native.Mathlib.Omega.{arith}
use native.Mathlib.Nat.{sub-zero}
use Rattle.memory.proofs.Laws.{exit}
use Rattle.memory.specs.Reading.{Other}
use Rattle.marking.proofs.MarkLaws.{kept-still, kept-on}
use Rattle.marking.proofs.CodeLaws.{codes-none, codes-halted, codes-word-halted, codes-more}
use Rattle.marking.proofs.marked.Marked.walk_codes.Goals as goal

pub loop-i-init : goal.loop-i-init
loop-i-init c = record { kept = kept-still _; within = omega arith; rest = λ r source k cs. rw sub-zero at (k cs) }

pub returns-in_err-w-clause-follows : goal.returns-in_err-w-clause-follows
returns-in_err-w-clause-follows c = λ source.
    let l = c.loop-i in
    rw (exit _ c.from_residual.ensures.1)
    (l.invariant.rest _ source (λ cs.
    codes-halted _ _ _ _ cs _ _ _ _ (omega arith) (rw (c.in_err-w.was, l.invariant.kept.mem) at (c.mark_word.ensures.walked Other refl))))

pub returns-in_err-current-clause-follows : goal.returns-in_err-current-clause-follows
returns-in_err-current-clause-follows c = λ source.
    let l = c.loop-i in
    let k = kept-on l.invariant.kept c.mark_word.ensures.kept in
    rw (exit _ c.from_residual-in_err-current.ensures.1)
    (l.invariant.rest _ source (λ cs.
    codes-word-halted _ _ _ _ cs _ _ _ _ _ (omega arith) (rw (c.in_ok-w.was, l.invariant.kept.mem) at (c.mark_word.ensures.walked Other refl))
    (rw (c.in_err-current.was, c.min-n.ensures, k.mem) at (c.walk_word.ensures.follows source cs))))

pub loop-i-preserved : goal.loop-i-preserved
loop-i-preserved c =
    let l = c.loop-i in
    let k = kept-on l.invariant.kept c.mark_word.ensures.kept in
    let left = c.args.count - 2 * l.i in
    let reached = rw c.in_ok-current.was at c.walk_word.ensures.up_to in
    let less : c.args.count - 2 * (l.i + 1) ≡ left - min left 2 = omega arith in
    record {
      kept = kept-on k c.walk_word.ensures.kept;
      within = omega arith;
      rest = λ r source rest.
          l.invariant.rest r source (λ cs.
          codes-more _ _ _ _ cs _ _ _ _ _ (omega arith) (rw (c.in_ok-w.was, l.invariant.kept.mem) at (c.mark_word.ensures.walked Other refl))
          (rw (c.in_ok-current.was, c.min-n.ensures, k.mem) at (c.walk_word.ensures.follows source cs))
          (λ ds. rw (c.onward-at.ensures, less) at (rest ds)));
    }

pub returns-clause-follows : goal.returns-clause-follows
returns-clause-follows c = λ source. c.loop-i.invariant.rest _ source (λ cs. codes-none _ _ _ _ cs _ _ _ _ (omega arith))
