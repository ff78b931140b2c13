-- The cells of a line, one by one.
use mathlib.Core.Path.{◌≡◌, refl, ap, ◌∙◌}
use mathlib.Core.Bool.{Bool, true, false}
use mathlib.Core.List.{List, [], ◌∷◌}
use Prim.Native.Nat.{ℕ, zero, suc, ◌+◌, ◌<◌}
use native.Mathlib.Omega.{arith}
use lib.ListN.{length, get_or-replicate}
use lib.Seq.{ext_get_or}
use Rattle.memory.specs.Word.{when◌then◌else◌}
use Rattle.memory.proofs.ReadBounds.{if-cases}
use Rattle.panel.specs.declared.Columns.{Columns}
use Rattle.panel.specs.Shown.{Layer, layer, in_columns, nothing, cell_in, background_cell, with_cursor_of, shown_cell, cells_from, shown}

cells-length : (f : ℕ → ℕ) (n x : ℕ) → length (cells_from f n x) ≡ n
unfolding cells_from
cells-length f zero x = refl
cells-length f (suc n) x = ap suc (cells-length f n (suc x))

cells-from : (f : ℕ → ℕ) (n x i : ℕ) → i < n → cell_in (cells_from f n x) i ≡ f (x + i)
unfolding cells_from
cells-from f zero x i l = absurd (omega arith)
cells-from f (suc n) x zero l = ap f (omega arith)
cells-from f (suc n) x (suc i) l = cells-from f n (suc x) i (omega arith) ∙ ap f (omega arith)

-- a cell with its own cursor is that cell
own-cursor : (c : ℕ) → with_cursor_of c c ≡ c
unfolding with_cursor_of
own-cursor c = omega arith

-- ---- one cell of a line ----

-- where no row stands still; in the columns of the row that does; elsewhere
pub data Shows (cells : List ℕ) (c : Columns) (b : Layer) (behind : List ℕ) (x : ℕ) : ℕ → Type 0 where
  nowhere : cells ≡ [] → Shows cells c b behind x nothing
  stands : in_columns c x ≡ true → Shows cells c b behind x (cell_in cells x)
  glides : in_columns c x ≡ false → Shows cells c b behind x (with_cursor_of (cell_in cells x) (background_cell b behind b.cells x))

pub shows : (cells : List ℕ) (c : Columns) (b : Layer) (behind : List ℕ) (x : ℕ) → x < 132
    → Shows cells c b behind x (cell_in (shown (layer cells c) b behind) x)
unfolding shown shown_cell
shows [] c b behind x l = rw (get_or-replicate 132 x nothing nothing l) (nowhere refl)
shows (v ∷ vs) c b behind x l =
    let f = shown_cell (layer (v ∷ vs) c) b behind in
    let there : cell_in (cells_from f 132 0) x ≡ f x = cells-from f 132 0 x l ∙ ap f (omega arith) in
    rw there
    (if-cases (Shows (v ∷ vs) c b behind x) (in_columns c x) stands glides)

-- a row on itself is that row
by-window : (b : Bool) (v w : ℕ) → (when b then v else with_cursor_of v (when b then w else v)) ≡ v
by-window true v w = refl
by-window false v w = own-cursor v

same-cell : (x : ℕ) (xs : List ℕ) (c : Columns) (behind : List ℕ) (i : ℕ)
    → shown_cell (layer (x ∷ xs) c) (layer (x ∷ xs) c) behind i ≡ cell_in (x ∷ xs) i
unfolding shown_cell
same-cell x xs c behind i = by-window (in_columns c i) (cell_in (x ∷ xs) i) (cell_in behind i)

pub on-itself : (cells : List ℕ) (c : Columns) (behind : List ℕ) → length cells ≡ 132 → shown (layer cells c) (layer cells c) behind ≡ cells
unfolding shown
on-itself [] c behind l = absurd (omega arith)
on-itself (x ∷ xs) c behind l =
    let f = shown_cell (layer (x ∷ xs) c) (layer (x ∷ xs) c) behind in
    ext_get_or nothing (cells_from f 132 0) (x ∷ xs) (cells-length f 132 0 ∙ (omega arith))
    λ i k. cells-from f 132 0 i (omega (arith, cells-length f 132 0)) ∙ ap f (omega arith) ∙ same-cell x xs c behind i
