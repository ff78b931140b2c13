-- Cells from left to right: one more at the end, and the cells of a line column by column.
use mathlib.Core.Path.{◌≡◌, refl, ap, ◌∙◌}
use mathlib.Core.List.{List, [], ◌∷◌, ◌++◌}
use Prim.Native.Nat.{ℕ, zero, suc, ◌+◌, ◌<◌}
use native.Mathlib.Omega.{arith}
use native.Mathlib.Numerals.{add-one}
use native.Mathlib.Nat.{zero-add}
use lib.ListN.{length, replicate, take, set}
use lib.Seq.{take-suc-set}
use Rattle.panel.specs.Shown.{Layer, nothing, shown_cell, cells_from, shown_by, shown}
use Rattle.panel.specs.Answers.{shown_in}

cells-more : (f : ℕ → ℕ) (n x : ℕ) → cells_from f (suc n) x ≡ cells_from f n x ++ (f (x + n) ∷ [])
unfolding cells_from
cells-more f zero x = ap (λ (k : ℕ). f k ∷ []) (omega arith)
cells-more f (suc n) x = ap (λ (l : List ℕ). f x ∷ l) (cells-more f n (suc x) ∙ ap (λ (k : ℕ). cells_from f n (suc x) ++ (f k ∷ [])) (omega arith))

-- a cell written at x
pub cells-next : (f : ℕ → ℕ) (cells : List ℕ) (x : ℕ) → x < length cells → take x cells ≡ cells_from f x 0
    → take (x + 1) (set cells x (f x)) ≡ cells_from f (x + 1) 0
cells-next f cells x there so_far = rw (add-one, take-suc-set cells x (f x) there, cells-more f x 0, zero-add, so_far)

all_nothing : (n x : ℕ) → replicate n nothing ≡ cells_from (λ (k : ℕ). nothing) n x
unfolding cells_from
all_nothing zero x = refl
all_nothing (suc n) x = ap (λ (l : List ℕ). nothing ∷ l) (all_nothing n (suc x))

by-columns : (s b : Layer) (behind cells : List ℕ) → shown_by s b behind cells ≡ cells_from (shown_in s b behind cells) 132 0
by-columns s b behind [] = all_nothing 132 0
by-columns s b behind (c ∷ cs) = refl

pub shown-columns : (s b : Layer) (behind : List ℕ) → shown s b behind ≡ cells_from (shown_in s b behind s.cells) 132 0
unfolding shown
shown-columns s b behind = by-columns s b behind s.cells

-- a row that stands still, by its count
pub stands : (s b : Layer) (behind cells : List ℕ) (x : ℕ) → (length cells ≡ 0 → ⊥) → shown_in s b behind cells x ≡ shown_cell s b behind x
stands s b behind [] x h = absurd (h refl)
stands s b behind (c ∷ cs) x h = refl
