-- What a start refuses up to its main block is given as it is; what it still refuses then is the first window's.
use mathlib.Core.Path.{sym, ◌∙◌}
use Rattle.blame.proofs.VerdictLaws.{main-refused, start-refused, start-given}
use Rattle.blame.proofs.frame_verdict.Goals as goal

pub returns-in-Err : goal.returns-in-Err
returns-in-Err c = rw c.refusal_of.ensures (sym (main-refused _ _ _ (sym (rw c.in-Err.is at c.main_of.ensures))))

pub returns-in-Err-start : goal.returns-in-Err-start
returns-in-Err-start c =
    sym (start-refused _ _ _ (sym (rw c.in_default.is at c.main_of.ensures)) (rw c.in-Err-start.is at c.start.ensures))

pub returns-in-Ok : goal.returns-in-Ok
returns-in-Ok c =
    c.walk_rows.ensures
    ∙ sym (start-given _ _ _ (sym (rw c.in_default.is at c.main_of.ensures)) (rw c.in-Ok.is at c.start.ensures))
