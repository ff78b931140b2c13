-- Document 02, §12: the reader call. "24, text not of this form, with the offset of the first byte that no such text can have there after
-- the bytes before it, or its length; then 23, buffer too short, untouched. Places past what is written stay."
use Rattle.std.specs.Prelude.{ℕ, ◌≤◌, List, length, leb, Result, Ok, Err}
use Rattle.memory.specs.Word.{when◌then◌else◌}
use Rattle.memory.specs.declared.Fault.{Fault}
use Rattle.memory.specs.Reading.{fault, refusal}
use Rattle.memory.specs.declared.Refusal.{Refusal}
use Rattle.mail.specs.Write.{onto}
use Rattle.mail_reader.specs.Reader.{Outcome, row, stops, read_row}

-- a call's answer, and what its buffer then holds
pub record ReadBack : Type 0 where
  pub answer : Result ℕ Refusal
  pub buffer : List ℕ

abbrev pub read_back : Result ℕ Refusal → List ℕ → ReadBack
read_back answer buffer = record { answer = answer; buffer = buffer }

-- the offset is told as the address; the row is 0
abbrev pub not_of_this_form : ℕ → Fault
not_of_this_form offset = record { number = 24; address = offset; from = 0 }

abbrev pub answered : List ℕ → Outcome → ReadBack
answered buffer (row cells) =
    when leb (length cells) (length buffer)
    then read_back (Ok (length cells)) (onto cells buffer)
    else read_back (Err (refusal 0 (fault 23))) buffer
answered buffer (stops offset) = read_back (Err (refusal 0 (not_of_this_form offset))) buffer

unfoldable pub read_mail : List ℕ → List ℕ → ReadBack
read_mail t buffer = answered buffer (read_row t)

-- no more cells than a row has
abbrev pub FewCells : Result ℕ Refusal → Type 0
FewCells (Ok n) = n ≤ 132
FewCells (Err r) = 0 ≤ 132
