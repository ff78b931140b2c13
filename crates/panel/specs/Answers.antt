-- What the code of a line's cells gives, column by column.
use Rattle.std.specs.Prelude.{ℕ, List, [], ◌∷◌}
use Rattle.panel.specs.Shown.{Layer, nothing, shown_cell}

-- what a line shows in column x, by the cells of the row that stands still: nothing where there is no such row
abbrev pub shown_in : Layer → Layer → (behind : List ℕ) → List ℕ → ℕ → ℕ
shown_in s b behind [] x = nothing
shown_in s b behind (c ∷ cs) x = shown_cell s b behind x
