-- What a call on a row's text leaves in the slices that it was lent, and its status: 0 where it is accepted, else the refusal's number.
use Rattle.std.specs.Prelude.{ℕ, List, [], ◌∷◌, eqb, Result, Ok, Err}
use Rattle.memory.specs.Word.{when◌then◌else◌}
use Rattle.memory.specs.declared.Refusal.{Refusal}
use Rattle.mail.specs.Write.{Mailed}
use Rattle.mail_reader.specs.Read.{ReadBack}

pub record Lent : Type 0 where
  pub status : ℕ
  pub buffer : List ℕ
  pub answer : List ℕ

abbrev pub lent : ℕ → List ℕ → List ℕ → Lent
lent status buffer answer = record { status = status; buffer = buffer; answer = answer }

-- the writer: the text's length. A refusal writes nothing
abbrev pub write_numbers : List ℕ → List ℕ → Result ℕ Refusal → Lent
write_numbers answer buffer (Ok n) = lent 0 buffer (n ∷ [])
write_numbers answer buffer (Err r) = lent r.number buffer answer

abbrev pub after_write : List ℕ → Mailed → Lent
after_write answer m = write_numbers answer m.buffer m.answer

-- the reader: the count of cells, or the offset that refusal 24 tells. 23 writes nothing
abbrev pub read_numbers : List ℕ → List ℕ → Result ℕ Refusal → Lent
read_numbers answer buffer (Ok n) = lent 0 buffer (n ∷ [])
read_numbers answer buffer (Err r) = lent r.number buffer (when eqb r.number 24 then r.address ∷ [] else answer)

abbrev pub after_read : List ℕ → ReadBack → Lent
after_read answer m = read_numbers answer m.buffer m.answer
