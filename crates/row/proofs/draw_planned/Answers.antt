-- What the plan has checked lets the cells be drawn; the answer and the buffer are then those of the whole row. A refusal puts back what was
-- kept of the buffer.
use Rattle.std.proofs.Common.{Err}
use mathlib.Core.Path.{sym, ap, ap₂, ◌∙◌}
use mathlib.Core.List.{List}
use Prim.Native.Nat.{ℕ}
use lib.Dec.{lit<}
use Rattle.memory.specs.Reading.{refusal}
use Rattle.state.specs.State.{state_of}
use Rattle.cells.specs.Answers.{Finished}
use Rattle.cells.proofs.FinishLaws.{finish-refused, finish-given}
use Rattle.row.specs.Row.{with_cursor, called, answer_of, answered}
use Rattle.row.proofs.RowBound.{row-bound}
use Rattle.row.proofs.RowLaws.{plan-drawable, planned-refused, planned-drawn}
use Rattle.plan.proofs.PlanPassing.{plan-passing}
use borrow.Author.Rules.{rules}
use Rattle.row.proofs.draw_planned.Goals as goal

pub code_settings-code-requires : goal.code_settings-code-requires
code_settings-code-requires c = (plan-passing _ _ _ c.requires.1).straight

pub draw_cells-requires : goal.draw_cells-requires
draw_cells-requires c =
    let a = c.args in
    let k = plan-drawable a.settings a.mem.now (λ i. (c.type_inv.mem i).fits) a.state.fields c.requires.1 in
    rw c.code_settings-code.ensures (record { drawable = k.0; words_bound = (k.1, search rules) })

pub returns-in-Err : goal.returns-in-Err
returns-in-Err c =
    let a = c.args in record {
      few_words = lit< tt;
      buffer_after = rw c.refusal_of.ensures
          (ap (called (Err (refusal a.state.fields.row c.in-Err.fault))) (cc)
          ∙ ap (answered a.settings a.state.fields a.buffer.now) (planned-refused a.settings a.mem.now a.state c.requires.1 (finish-refused _ (rw (c.in-Err.is, c.code_settings-code.ensures) at c.draw_cells.ensures))));
    }

pub returns-in-Ok : goal.returns-in-Ok
returns-in-Ok c =
    let a = c.args in
    let g = finish-given _ (rw (c.in-Ok.is, c.code_settings-code.ensures) at c.draw_cells.ensures) in
    let e = planned-drawn a.settings a.mem.now a.state c.requires.1 g.is in
    let k = row-bound a.settings a.mem.now (λ i. (c.type_inv.mem i).fits) a.state _ _ (sym e) in
    rw c.row_answer.ensures (record {
      few_words = k.0;
      buffer_after = ap₂ (λ (latch : ℕ) (cs : List ℕ). called (answer_of a.state.fields.row a.p.lines a.p.format c.in-Ok.drawn.words (state_of latch a.p.next)) cs)
          (ap (λ (f : Finished). f.latch) g.same)
          (c.mark_cursor.ensures ∙ ap (λ (f : Finished). with_cursor a.settings a.state.fields f.cells) g.same)
          ∙ ap (answered a.settings a.state.fields a.buffer.now) e;
    })
