-- The best of all trials is the best so far and that of the marks still to try: a trial that finds a cell ends it.
use native.Mathlib.Omega.{arith}
use Rattle.mail_reader.proofs.ReaderLaws.{first-trial, trial-found, trial-stopped, trials-end}
use Rattle.mail_reader.proofs.next_cell.Goals as goal

pub loop-marks-init : goal.loop-marks-init
loop-marks-init c = (omega arith, omega arith, first-trial _)

pub returns-in-Ok : goal.returns-in-Ok
returns-in-Ok c =
    let l = c.loop-marks in
    let e = rw c.in-Ok.is at c.try_marks.ensures in
    (trial-found _ _ _ l.reach c.args.text.now l.invariant.2 _ c.loop-marks-test.true e.0, e.1)

pub loop-marks-preserved : goal.loop-marks-preserved
loop-marks-preserved c =
    let l = c.loop-marks in
    let e = rw c.in-Err.is at c.try_marks.ensures in
    (omega arith, omega arith, rw c.max-reach.ensures (trial-stopped _ _ _ l.reach c.args.text.now l.invariant.2 _ c.loop-marks-test.true e.0))

pub returns : goal.returns
returns c =
    let l = c.loop-marks in
    (trials-end _ _ _ l.reach c.args.text.now l.invariant.2 c.loop-marks-test.false, (l.invariant.0, l.invariant.1))
