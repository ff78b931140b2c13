-- What the functions of this crate give, as what the rules give: no rules of their own.
use Rattle.std.specs.Prelude.{Option, Some, None, Result, Ok, Err}
use Rattle.memory.specs.Word.{when◌then◌else◌}
use Rattle.memory.specs.Reading.{refusal}
use Rattle.memory.specs.declared.Fault.{Fault}
use Rattle.state.specs.declared.Fields.{Fields}
use Rattle.cells.specs.declared.CellsDrawn.{CellsDrawn}
use Rattle.joining.specs.declared.Part.{Part}
use Rattle.joining.specs.declared.Part.TheVariants.{Keep, Set, Refuse}
use Rattle.effect.specs.declared.EffectAnswer.{EffectAnswer}

-- the answer of a row that is accepted and has one part for either latch
abbrev pub same_parts : Part → Fields → EffectAnswer
same_parts part next = record { effect = record { clear = part; set = part }; next = Some next }

-- the part and the next fields that the cells of a planned row tell, and the answer
abbrev pub part_drawn : Fields → Result CellsDrawn Fault → Part
part_drawn f (Err x) = Refuse (refusal f.row x)
part_drawn f (Ok d) = when d.latched then Set d.latch else Keep

abbrev pub next_drawn : Fields → Result CellsDrawn Fault → Option Fields → Option Fields
next_drawn reached (Ok d) otherwise = Some reached
next_drawn reached (Err x) otherwise = otherwise

abbrev pub effect_drawn : Fields → Fields → Result CellsDrawn Fault → Result CellsDrawn Fault → EffectAnswer
effect_drawn f reached clear set = record {
  effect = record { clear = part_drawn f clear; set = part_drawn f set };
  next = next_drawn reached clear (next_drawn reached set None);
}

-- the answer of a row whose plan is refused
abbrev pub refused_effect : Fields → Fault → EffectAnswer
refused_effect f x = effect_drawn f f (Err x) (Err x)
