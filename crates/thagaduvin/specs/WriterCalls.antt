-- The writer call of a console: its status, 0 where the word is written, else the refusal's number, and what memory then holds.
use Rattle.std.specs.Prelude.{ℕ, List}
use Rattle.writer.specs.declared.Span.{Span}
use Rattle.writer.specs.Writer.{Wrote, status, write_word}

pub record WordWritten : Type 0 where
  pub status : ℕ
  pub memory : List ℕ

abbrev pub word_written : ℕ → List ℕ → WordWritten
word_written status memory = record { status = status; memory = memory }

abbrev pub after_write : Wrote → WordWritten
after_write out = word_written (status out.answer) out.memory

unfoldable pub host_write_word : List ℕ → Span → Span → ℕ → ℕ → WordWritten
host_write_word m own other address word = after_write (write_word m own other address word)
