use mathlib.Core.Path.{◌≡◌}
use mathlib.Core.List.{List}
use Prim.Native.Nat.{ℕ}
use lib.ListN.{take}
use Rattle.panel.specs.declared.Columns.{Columns}
use Rattle.panel.specs.Shown.{layer, cells_from}
use Rattle.panel.specs.Answers.{shown_in}
use Rattle.panel.proofs.show.Given as goal

-- what the line shows in each column
abbrev pub columns : List ℕ → Columns → List ℕ → Columns → List ℕ → ℕ → ℕ
columns still still-columns gliding gliding-columns behind = shown_in (layer still still-columns) (layer gliding gliding-columns) behind still

abbrev pub invariant-loop-x : goal.invariant-loop-x
invariant-loop-x l = take l.x l.cells ≡ cells_from (columns l.still l.still_columns l.gliding l.gliding_columns l.behind) l.x 0
