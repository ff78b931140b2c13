-- The whole line is what was written so far, then what the cells that are left make of it. Each turn writes 9 bytes.
use Rattle.std.proofs.Common.{◌≡◌, ◌++◌, ◌+◌, ◌*◌, length, take, drop}
use Rattle.lines.specs.Lines.{more_cells}
use Rattle.lines.proofs.put_cells.Given as goal

abbrev pub invariant-loop-cell : goal.invariant-loop-cell
invariant-loop-cell l =
    (length l.out ≡ 2048) × (l.at ≡ l.initial.at + 9 * l.cell-index)
    × (take l.at l.out ++ more_cells (drop l.cell-index l.others) ≡ take l.initial.at l.initial.out ++ more_cells l.others)
