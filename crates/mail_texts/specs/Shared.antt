-- What the reader gives of any text, told over the texts that the writer writes.
use Rattle.std.specs.Prelude.{ℕ, ◌≤◌, ◌≡◌, List, ◌++◌, length, take}
use Rattle.mail.specs.Mail.{row_text}
use Rattle.mail.specs.Texts.{WrittenText, RowCells}
use Rattle.mail_reader.specs.Reader.{Outcome, row, stops}

-- u is a beginning of t
abbrev pub Begins : List ℕ → List ℕ → Type 0
Begins u t = (v : List ℕ) × (u ++ v ≡ t)

-- n is the length of the longest beginning of the text that some written text also has: byte n is "the first byte that no such text can
-- have there after the bytes before it", or n is the text's length
pub record LongestShared (t : List ℕ) (n : ℕ) : Type 0 where
  pub within : n ≤ length t
  pub text : List ℕ
  pub is_written : WrittenText text
  pub shared : Begins (take n t) text
  pub longest : (m : ℕ) → m ≤ length t → (w : List ℕ) → WrittenText w → Begins (take m t) w → m ≤ n

-- an accepted text is a written one, and its cells are those that it was written from; a refused one is none
abbrev pub Reads : List ℕ → Outcome → Type 0
Reads t (row cells) = RowCells cells × (t ≡ row_text cells) × WrittenText t
Reads t (stops n) = LongestShared t n × (WrittenText t → ⊥)
