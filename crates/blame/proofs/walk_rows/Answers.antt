-- The verdict from the state in hand on is the whole one: each row hands it on, and has the lines run out.
use mathlib.Core.Path.{sym, ◌∙◌}
use native.Mathlib.Omega.{arith}
use Rattle.blame.proofs.RowsLaws.{rows_end, next-fewer, next-rows, refused-rows}
use Rattle.blame.proofs.walk_rows.Goals as goal

pub loop-state-smaller : goal.loop-state-smaller
loop-state-smaller c =
    let a = c.args in
    next-fewer a.settings a.mem.now (λ i. (c.type_inv.mem i).fits) c.loop-state.led c.loop-state.state (rw c.in-Ok.is at c.walk_row.ensures)

pub loop-state-preserved : goal.loop-state-preserved
loop-state-preserved c =
    let a = c.args in
    let l = c.loop-state in
    rw c.leader-led.ensures
    (l.invariant ∙ next-rows a.settings a.mem.now (λ i. (c.type_inv.mem i).fits) l.led l.state (λ e. omega arith)
    (rw c.in-Ok.is at c.walk_row.ensures))

pub returns-in-Err : goal.returns-in-Err
returns-in-Err c =
    let a = c.args in
    let l = c.loop-state in
    rw (c.judged.ensures, c.leader-led.ensures)
    (sym (l.invariant ∙ refused-rows a.settings a.mem.now (λ i. (c.type_inv.mem i).fits) l.led l.state (λ e. omega arith)
    (rw c.in-Err.is at c.walk_row.ensures)))

pub returns : goal.returns
returns c =
    let a = c.args in
    let l = c.loop-state in
    sym (l.invariant ∙ rows_end a.settings a.mem.now (λ i. (c.type_inv.mem i).fits) l.led l.state (omega arith))
