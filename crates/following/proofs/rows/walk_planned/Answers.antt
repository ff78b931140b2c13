-- The walk of the cells gives the latch of the next state.
use mathlib.Core.List.{[]}
use Rattle.memory.proofs.Laws.{exit}
use Rattle.following.proofs.RowLaws.{planned-halted, planned-went}
use Rattle.following.proofs.rows.walk_planned.Goals as goal

pub returns-in_err-pen-clause-walked : goal.returns-in_err-pen-clause-walked
returns-in_err-pen-clause-walked c =
    rw (exit _ c.from_residual.ensures.1)
    (planned-halted c.args.settings _ _ _ _ _ (rw (c.in_err-pen.was, c.code_settings.ensures) at (c.walk_cells.ensures.follows [])))

pub returns-clause-walked : goal.returns-clause-walked
returns-clause-walked c =
    planned-went c.args.settings _ _ _ _ _ (rw (c.in_ok-pen.was, c.code_settings.ensures) at (c.walk_cells.ensures.follows []))
