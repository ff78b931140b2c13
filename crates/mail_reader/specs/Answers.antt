-- What the functions of this crate give, with the cells that they leave, as what the rules give: no rules of their own.
use Rattle.std.specs.Prelude.{ℕ, ◌≤◌, List, length, take, Result, Ok, Err}
use Rattle.mail_reader.specs.declared.CellRead.{CellRead}
use Rattle.mail_reader.specs.Reader.{Outcome, row, stops}

-- the answer of `read_row`, whose cells stand at the front of an array
abbrev pub row_read : Result ℕ ℕ → List ℕ → Outcome
row_read (Ok n) cells = row (take n cells)
row_read (Err i) cells = stops i

-- a cell with its change of marks takes at most 13 bytes, and no more than there are
abbrev pub NextWithin : List ℕ → Result CellRead ℕ → Type 0
NextWithin t (Ok f) = (f.bytes ≤ 13) × (f.bytes ≤ length t)
NextWithin t (Err i) = (i ≤ 13) × (i ≤ length t)

-- no more cells than the array has; an offset of 32 bits
abbrev pub RowWithin : List ℕ → Result ℕ ℕ → Type 0
RowWithin cells (Ok n) = n ≤ length cells
RowWithin cells (Err i) = i ≤ 1800
