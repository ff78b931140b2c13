-- What of a text is still to come, and what a call for its next row gives. No rules of their own.
use Rattle.std.specs.Prelude.{ℕ, List, Option}
use Rattle.lines.specs.declared.Piece.{Piece}
use Rattle.text.specs.declared.Text.{Text}
use Rattle.text.specs.Form as Form
use Rattle.mail_text.specs.MailText.{mailing}

abbrev pub to_come : List ℕ → Text → List ℕ
to_come = Form.to_come mailing

-- a call gives the next row or the last line, or says that the text is at its end
abbrev pub Next : (memory : List ℕ) → Text → Option (Piece Text) → (buffer : List ℕ) → Type 0
Next = Form.Next mailing
