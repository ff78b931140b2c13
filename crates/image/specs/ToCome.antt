-- What of the script of an image is still to come, and what a call for its next piece gives. No rules of their own.
use Rattle.std.specs.Prelude.{ℕ, ◌+◌, ◌-◌, List, [], ◌++◌, drop, Option}
use Rattle.lines.specs.declared.Piece.{Piece}
use Rattle.lines.specs.Pieces as Pieces
use Rattle.image.specs.declared.Text.{Text}
use Rattle.image.specs.declared.Text.TheVariants.{Head, Words, Ended}
use Rattle.image.specs.Written.{word_record, values_text, draw_record, written}

unfoldable pub to_come : (registers memory : List ℕ) → Text → List ℕ
to_come rs m (Head s) = written (record { switches = s; registers = rs; memory = m })
to_come rs m (Words i) = values_text word_record i (drop i m) ++ draw_record
to_come rs m Ended = []

-- a bound on the calls that it takes to the script's end
abbrev pub calls : Text → ℕ
calls (Head s) = 16386
calls (Words i) = 16384 - i + 1
calls Ended = 0

-- a call gives the next piece, or says that the script is at its end
abbrev pub Next : (registers memory : List ℕ) → Text → Option (Piece Text) → (buffer : List ℕ) → Type 0
Next rs m = Pieces.Next (to_come rs m) calls

-- past the registers, whatever they are
abbrev pub NextWords : (memory : List ℕ) → ℕ → Option (Piece Text) → (buffer : List ℕ) → Type 0
NextWords m from p buffer = (rs : List ℕ) → Next rs m (Words from) p buffer
