-- No codes leave all as it is; each way draws the same codes; the tests give what each of the two fast ones asks.
use mathlib.Core.Path.{sym}
use native.Mathlib.Omega.{arith}
use Rattle.memory.proofs.Laws.{run-done}
use Rattle.codes.specs.Codes.{codes}
use Rattle.runs.proofs.draw_codes.Goals as goal

pub returns-then-count-eq0 : goal.returns-then-count-eq0
unfolding codes
returns-then-count-eq0 c =
    let h = c.requires in
    record { within = (h.1, omega arith); cells_after = rw c.if-count-eq0.true (sym (run-done _ _ _)) }
