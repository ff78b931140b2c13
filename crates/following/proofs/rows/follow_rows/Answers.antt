-- Each turn walks one row: what is left to follow from here is the whole.
use mathlib.Core.Path.{sym, ◌∙◌}
use native.Mathlib.Omega.{arith}
use native.Mathlib.Nat.{sub-zero, sub-add-eq}
use Rattle.memory.proofs.Laws.{exit, told-ok, told-err}
use Rattle.marking.proofs.MarkLaws.{kept-still, kept-on}
use Rattle.following.proofs.RowLaws.{rows_none, rows-ended, rows-stopped, rows_more}
use Rattle.following.proofs.rows.follow_rows.Goals as goal

pub loop-init : goal.loop-init
loop-init c = record { kept = kept-still _; rest = rw sub-zero }

pub returns-then-current-eq0-clause-followed : goal.returns-then-current-eq0-clause-followed
returns-then-current-eq0-clause-followed c = rows-ended _ _ _ _ _ (omega arith) c.if-current-eq0.true ∙ c.loop.invariant.rest

pub returns-in_err-current-clause-followed : goal.returns-in_err-current-clause-followed
returns-in_err-current-clause-followed c =
    let i = c.loop.invariant in
    let k = told-err _ _ (sym c.told_in.ensures ∙ c.in_err-current.was) in
    rw (exit _ c.from_residual.ensures.1, k.2)
    (rows-stopped _ _ _ _ _ (omega arith) c.if-current-eq0.false (rw (k.1, i.kept.mem) at c.walk_row-walked.ensures.walked) ∙ i.rest)

pub loop-preserved : goal.loop-preserved
loop-preserved c =
    let i = c.loop.invariant in
    let k = told-ok _ _ (sym c.told_in.ensures ∙ c.in_ok-current.was) in
    record {
      kept = kept-on i.kept c.walk_row-walked.ensures.kept;
      rest = rw sub-add-eq (rows_more _ _ _ _ _ (omega arith) c.if-current-eq0.false (rw (k, i.kept.mem) at c.walk_row-walked.ensures.walked)) ∙ i.rest;
    }

pub returns-clause-followed : goal.returns-clause-followed
returns-clause-followed c = rows_none _ _ _ _ _ (omega arith) ∙ c.loop.invariant.rest
