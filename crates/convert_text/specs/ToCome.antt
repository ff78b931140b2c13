-- What of a text is still to come. No rules of their own.
use Rattle.std.specs.Prelude.{ℕ, List, [], Option}
use Rattle.lines.specs.Lines.{refusal_line, script_line}
use Rattle.lines.specs.declared.Piece.{Piece}
use Rattle.lines.specs.Pieces as Pieces
use Rattle.image.specs.ToCome as Image
use Rattle.convert_text.specs.declared.Text.{Text}
use Rattle.convert_text.specs.declared.Text.TheVariants.{Script, Refused, NoScript, Ended}

unfoldable pub to_come : (registers memory : List ℕ) → Text → List ℕ
to_come rs m (Script t) = Image.to_come rs m t
to_come rs m (Refused r) = refusal_line r
to_come rs m (NoScript n) = script_line n
to_come rs m Ended = []

-- a bound on the calls that it takes to the text's end
abbrev pub calls : Text → ℕ
calls (Script t) = Image.calls t
calls (Refused r) = 1
calls (NoScript n) = 1
calls Ended = 0

-- a call gives the next piece, or says that the text is at its end
abbrev pub Next : (registers memory : List ℕ) → Text → Option (Piece Text) → (buffer : List ℕ) → Type 0
Next rs m = Pieces.Next (to_come rs m) calls
