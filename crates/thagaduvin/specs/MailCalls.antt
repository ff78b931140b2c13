-- The calls of a console on a row's text; their statuses are those of Calls, with document 02's 23 and 24.
use Rattle.std.specs.Prelude.{ℕ, List, length, eqb, Option, Some, None}
use Rattle.memory.specs.Word.{when◌then◌else◌}
use Rattle.settings.specs.declared.Settings.{Settings}
use Rattle.numbers.specs.Decode.{settings_in}
use Rattle.mail.specs.Write.{write_mail}
use Rattle.mail_reader.specs.Read.{read_mail}
use Rattle.mail_answers.specs.AfterMail.{Lent, lent, after_write, after_read}

-- the writer
abbrev pub write_from : List ℕ → List ℕ → List ℕ → Option Settings → Lent
write_from cells text answer (Some σ) = after_write answer (write_mail σ cells text)
write_from cells text answer None = lent 255 text answer

unfoldable pub host_write_mail : List ℕ → List ℕ → List ℕ → List ℕ → Lent
host_write_mail settings cells text answer =
    when eqb (length answer) 1 then write_from cells text answer (settings_in settings) else lent 255 text answer

-- the reader
unfoldable pub host_read_mail : List ℕ → List ℕ → List ℕ → Lent
host_read_mail text cells answer = when eqb (length answer) 1 then after_read answer (read_mail text cells) else lent 255 cells answer
