use mathlib.Core.Path.{◌≡◌}
use mathlib.Core.List.{◌++◌, map}
use Prim.Native.Nat.{◌+◌, ◌*◌, ◌≤◌}
use lib.ListN.{take, drop}
use Rattle.mail.specs.Mail.{text_cell, cells_text, row_text}
use Rattle.mail.proofs.put_row.Given as goal

abbrev pub invariant-loop-cell : goal.invariant-loop-cell
invariant-loop-cell l =
    (l.at ≤ 4 + 13 * l.cell-index)
    × (row_text (map text_cell l.cell-items) ≡ take l.at l.out ++ cells_text l.before (drop l.cell-index (map text_cell l.cell-items)))
