-- Document 02, §12: the reader of a row's text. "Read back, it gives each cell's character, or `?`, and four marks; the reader takes one
-- row, of 1 to 132 cells, and refuses anything the writer could not have written".
use Rattle.std.specs.Prelude.{ℕ, zero, suc, ◌+◌, max, ◌&&◌, List, [], ◌∷◌, ◌++◌, length, get_or, drop, eqb, Result, Ok, Err}
use Rattle.memory.specs.Word.{when◌then◌else◌}
use Rattle.mail.specs.Mail.{is_character, marked, marks_of, change, row_start, row_end}
use Rattle.mail_reader.specs.declared.CellRead.{CellRead}

-- the length of the longest beginning that two texts share
unfoldable pub common : List ℕ → List ℕ → ℕ
common [] t = 0
common (a ∷ s) [] = 0
common (a ∷ s) (b ∷ t) = when eqb a b then suc (common s t) else 0

-- a cell, and the bytes that it takes with its change of marks
abbrev pub cell_read : (cell bytes : ℕ) → CellRead
cell_read cell bytes = record { cell = cell; bytes = bytes }

-- a cell with these marks next: its change of marks and a character; or how far the text is like that
unfoldable pub tried : ℕ → ℕ → List ℕ → Result CellRead ℕ
tried before marks t =
    let n : ℕ = length (change before marks) in
    when eqb (common (change before marks) t) n && is_character (get_or t n 0)
    then Ok (cell_read (marked (get_or t n 0) marks) (n + 1))
    else Err (common (change before marks) t)

-- the cell that one of two trials found, or the longer beginning
abbrev pub better : Result CellRead ℕ → Result CellRead ℕ → Result CellRead ℕ
better (Ok f) other = Ok f
better (Err i) (Ok f) = Ok f
better (Err i) (Err j) = Err (max i j)

-- a cell with one of the marks below n
unfoldable pub next_cell : ℕ → ℕ → List ℕ → Result CellRead ℕ
next_cell zero before t = Err 0
next_cell (suc marks) before t = better (tried before marks t) (next_cell marks before t)

-- what a text comes to: the cells of a row, or "the offset of the first byte that no such text can have there .., or its length"
pub data Outcome : Type 0 where
  row : List ℕ → Outcome
  stops : ℕ → Outcome

-- after the cells cs, which take n bytes
abbrev pub joined : List ℕ → ℕ → Outcome → Outcome
joined cs n (row ds) = row (cs ++ ds)
joined cs n (stops i) = stops (n + i)

-- no cell comes next, though i bytes are like one: a row "of 1 to 132 cells" ends here, and with it the text
abbrev pub ended : ℕ → ℕ → List ℕ → Outcome
ended count i t =
    when eqb count 0 then stops i
    else (when eqb (common row_end t) 5 && eqb (length t) 5 then row [] else stops (max i (common row_end t)))

-- the next cell, and what comes after it
abbrev pub turn : (ℕ → List ℕ → Outcome) → ℕ → List ℕ → Result CellRead ℕ → Outcome
turn next count t (Ok f) = joined (f.cell ∷ []) f.bytes (next (marks_of f.cell) (drop f.bytes t))
turn next count t (Err i) = ended count i t

-- the cells after `count` others, of which `left` may still come, and the row's end
unfoldable pub cells_read : ℕ → ℕ → ℕ → List ℕ → Outcome
cells_read zero count before t = ended count 0 t
cells_read (suc left) count before t = turn (cells_read left (suc count)) count t (next_cell 16 before t)

-- a whole text
unfoldable pub read_row : List ℕ → Outcome
read_row t =
    when eqb (common row_start t) 4 then joined [] 4 (cells_read 132 0 0 (drop 4 t)) else stops (common row_start t)
