-- What the plan has checked lets the cells be drawn, with their addresses; the answer, the buffer and the list are then those of the whole
-- row. The count of words starts `at` places further than the row's.
use mathlib.Core.Path.{◌≡◌, refl, ap, sym, ◌∙◌}
use mathlib.Core.Bool.{Bool}
use mathlib.Core.List.{List}
use Prim.Native.Nat.{ℕ, ◌+◌, ◌-◌}
use native.Mathlib.Omega.{arith}
use lib.ListN.{take}
use lib.Seq.{sets, take_all}
use Rattle.memory.specs.Reading.{asked}
use Rattle.blocks.specs.RowBlock.{segments_of}
use Rattle.layout.specs.Answers.{overlay_of}
use Rattle.codes.specs.Codes.{blank}
use Rattle.cells.specs.Cells.{row_cells}
use Rattle.noting.proofs.NotingLaws.{noting-run, noting-asked}
use Rattle.state.specs.State.{state_of}
use Rattle.row.specs.Row.{code_settings, with_cursor, called, answer_of, answered}
use Rattle.row.proofs.RowBound.{row-bound}
use Rattle.row.proofs.RowLaws.{plan-drawable, planned-drawn}
use Rattle.listed.proofs.ListedLaws.{run-before}
use Rattle.plan.proofs.PlanPassing.{plan-passing}
use Rattle.listed.proofs.drawing.draw_sure.Goals as goal

pub code_settings-code-requires : goal.code_settings-code-requires
code_settings-code-requires c = (plan-passing _ _ _ c.requires.buffer_len.1).straight

pub overflow_add-at : goal.overflow_add-at
overflow_add-at c =
    let k = plan-drawable c.args.settings c.args.mem.now (λ i. (c.type_inv.mem i).fits) c.args.state.fields c.requires.buffer_len.1 in
    omega (arith, k.1, c.requires.back_value.1)

pub draw_cells-drawn-requires : goal.draw_cells-drawn-requires
draw_cells-drawn-requires c =
    let straight = (plan-passing _ _ _ c.requires.buffer_len.1).straight in
    let k = plan-drawable c.args.settings c.args.mem.now (λ i. (c.type_inv.mem i).fits) c.args.state.fields c.requires.buffer_len.1 in
    rw c.code_settings-code.ensures
    (record {
      drawable = k.0;
      words_bound = (omega (arith, k.1, c.requires.back_value.1), c.requires.buffer_len.0, straight);
      back_value = rw straight c.requires.back_value.0;
    })

pub overflow_sub-drawn : goal.overflow_sub-drawn
overflow_sub-drawn c =
    let a = c.args in
    (run-before a.at a.p.words a.mem.now _ (noting-run _ _ _ _ c.draw_cells-drawn.ensures.latch_value)).0

pub returns : goal.returns
returns c =
    let a = c.args in
    let σ = a.settings in
    let f = a.state.fields in
    let m = a.mem.now in
    let straight = (plan-passing _ _ _ c.requires.buffer_len.1).straight in
    let d = c.draw_cells-drawn in
    let pen = d.result.pen in
    let cells = c.draw_cells-drawn.new.cells in
    let drawn = rw c.code_settings-code.ensures at c.draw_cells-drawn.ensures.latch_value in
    let g = run-before a.at a.p.words m _ (noting-run _ _ _ _ drawn) in
    let e = planned-drawn σ m a.state c.requires.buffer_len.1 g.1 in
    let k = row-bound σ m (λ i. (c.type_inv.mem i).fits) a.state _ _ (sym e) in
    let whole : take pen.column cells ≡ cells = take_all pen.column cells (omega (arith, c.draw_cells-drawn.ensures.column_value.0, d.auto.cells, c.requires.buffer_len.0)) in
    rw c.row_answer.ensures (record {
      few_words = (k.0, refl);
      buffer_after = ap (λ (cs : List ℕ). called (answer_of f.row a.p.lines a.p.format (d.result.words - a.at) (state_of pen.latch a.p.next)) cs)
          (c.mark_cursor.ensures ∙ ap (with_cursor σ f) (sym whole))
          ∙ ap (answered σ f a.buffer.now) e;
      list_after = noting-asked _ _ _ _ drawn
          ∙ ap (λ (l : Bool). sets a.list.now (a.at + a.p.words) (asked m (row_cells (code_settings σ) f.fill (overlay_of l a.p.overlay a.window.now) (segments_of l a.p.count a.back.now) (blank a.state.latch)))) straight;
    })
