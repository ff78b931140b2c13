-- The cells of a planned row tell what the whole row comes to.
use Rattle.state.specs.State.{state_of}
use Rattle.row.proofs.RowLaws.{plan-drawable}
use Rattle.effect.proofs.EffectLaws.{cells-row}
use Rattle.plan.proofs.PlanPassing.{plan-passing}
use borrow.Author.Rules.{rules}
use Rattle.effect.proofs.draw_from.Goals as goal

pub code_settings-code-requires : goal.code_settings-code-requires
code_settings-code-requires c = (plan-passing _ _ _ c.requires).straight

pub draw_cells-requires : goal.draw_cells-requires
draw_cells-requires c =
    let a = c.args in
    let k = plan-drawable a.settings a.mem.now (λ i. (c.type_inv.mem i).fits) a.fields c.requires in
    rw c.code_settings-code.ensures (record {
      drawable = k.0;
      words_bound = (k.1, search rules);
    })

pub returns : goal.returns
returns c =
    let a = c.args in
    let k = cells-row a.settings a.mem.now (state_of a.latch a.fields) c.requires c.draw_cells.result c.draw_cells.new.cells (rw c.code_settings-code.ensures at c.draw_cells.ensures) in
    record { result_value = k.0; x_value = k.1 }
