-- The user's three demands hold of the calls that a console runs.
use Rattle.calls_alone.proofs.AloneCalls.{demand-3-calls}
use Rattle.theorem_demands.specs.Demands.{Demand1, Demand2, Demand3, Demands}
use Rattle.theorem_demands.proofs.Reading.{start-reads, row_reads, beside-reads, shift-reads, effect-reads}
use Rattle.theorem_demands.proofs.Changing.{mend-reads, convert-reads}
use Rattle.theorem_demands.proofs.Plain.{sheet-tells, latch-kept, join_kept, apply-tells, write-mail-silent, read-mail-kept, bus-silent, write-silent, line-silent, shown-silent}
use Rattle.theorem_demands.proofs.Drawn.{row-by-rules, sheet-by-rules}
use Rattle.theorem_demands.proofs.Joins.{grouping, empty-first, empty-last}

demand-1 : Demand1
demand-1 = record {
  sheet = sheet-tells;
  start = λ settings m latch state list answer. (start-reads settings m latch state list answer).tells;
  row = λ settings m state cells list answer. (row_reads settings m state cells list answer).tells;
  latch = latch-kept;
  effect = λ settings m state effect. (effect-reads settings m state effect).kept;
  join = join_kept;
  apply = apply-tells;
  shift = λ settings m soft scroll answer. (shift-reads settings m soft scroll answer).tells;
  beside = λ settings m shift soft latch state cells list answer. (beside-reads settings m shift soft latch state cells list answer).tells;
  line = line-silent;
  shown = shown-silent;
  mend = λ settings m latch answer w. (mend-reads settings m latch answer w).tells;
  convert = λ settings m marks latch answer. (convert-reads settings m marks latch answer).stays;
  write_mail = write-mail-silent;
  read_mail = read-mail-kept;
  bus = bus-silent;
  write_word = write-silent;
  start_read = λ settings m latch state list answer. (start-reads settings m latch state list answer).read;
  row_read = λ settings m state cells list answer. (row_reads settings m state cells list answer).read;
  beside_read = λ settings m shift soft latch state cells list answer. (beside-reads settings m shift soft latch state cells list answer).read;
  start_missed = λ settings m latch state list answer. (start-reads settings m latch state list answer).missed;
  row_missed = λ settings m state cells list answer. (row_reads settings m state cells list answer).missed;
  beside_missed = λ settings m shift soft latch state cells list answer. (beside-reads settings m shift soft latch state cells list answer).missed;
  effect_missed = λ settings m state effect. (effect-reads settings m state effect).missed;
  shift_missed = λ settings m soft scroll answer. (shift-reads settings m soft scroll answer).missed;
  mend_missed = λ settings m latch answer w. (mend-reads settings m latch answer w).missed;
  convert_missed = λ settings m marks latch answer. (convert-reads settings m marks latch answer).missed;
}

demand-2 : Demand2
demand-2 = record { row = row-by-rules; sheet = sheet-by-rules }

demand-3 : Demand3
demand-3 = record { alone = demand-3-calls; grouping = grouping; empty_first = empty-first; empty_last = empty-last }

pub demands : Demands
demands = record { first = demand-1; second = demand-2; third = demand-3 }
