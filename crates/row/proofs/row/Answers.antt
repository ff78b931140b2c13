-- The buffer's size is check 1; a row is refused as its plan is, or drawn from it.
use mathlib.Core.Path.{ap, sym, ◌∙◌}
use lib.ListN.{length}
use lib.Dec.{lit<}
use borrow.Author.Tests.{eq-eqb, ne_eqb}
use Rattle.memory.proofs.Laws.{exit, told-err}
use Rattle.row.specs.Row.{answered, row_call}
use Rattle.row.proofs.RowLaws.{plan-refused}
use Rattle.row.proofs.row.Goals as goal

pub returns-then-buffer-ne132-clause-buffer_after : goal.returns-then-buffer-ne132-clause-buffer_after
unfolding row_call
returns-then-buffer-ne132-clause-buffer_after c =
    rw (c.refusal_of.ensures, c.fault_of.ensures, ne_eqb (length c.args.buffer.now) 132 c.if-buffer-ne132.true)

pub returns-in_err-p : goal.returns-in_err-p
unfolding row_call
returns-in_err-p c =
    let a = c.args in
    let k = told-err _ _ (sym c.told_in.ensures ∙ c.in_err-p.was) in
    rw (exit _ c.from_residual.ensures.1, k.2) (record {
      few_words = lit< tt;
      buffer_after = rw (eq-eqb (length a.buffer.now) 132 c.if-buffer-ne132.false)
          (ap (answered a.settings a.state.fields a.buffer.now) (plan-refused a.settings a.mem.now a.state (rw k.1 at c.plan_row-plan.ensures)));
    })

pub returns : goal.returns
unfolding row_call
returns c =
    rw (eq-eqb (length c.args.buffer.now) 132 c.if-buffer-ne132.false) c.draw_planned.ensures
