-- Texts that come in pieces: a piece is a line that was put at the start of a buffer; and what a caller gets who asks for pieces until the end.
use Rattle.std.proofs.Common.{◌≡◌, ap, sym, ◌∙◌, ℕ, ◌<◌, List, [], ◌++◌, append-nil, take, Some, None}
use Rattle.lines.specs.Lines.{Line}
use Rattle.lines.specs.Pieces.{Writes, Next}

-- a piece, with a text that begins with it
pub with-piece : {piece whole after buffer : List ℕ} {n calls left : ℕ} → Line piece n buffer → piece ++ after ≡ whole → left < calls
    → Writes n buffer whole after calls left
with-piece {after} l e f =
    record { within = l.0; sized = l.1; bytes = ap (λ (x : List ℕ). x ++ after) l.2 ∙ e; fewer = f }

-- the last piece
pub last-piece : {piece whole buffer : List ℕ} {n calls : ℕ} → Line piece n buffer → piece ≡ whole → 0 < calls → Writes n buffer whole [] calls 0
last-piece {piece} l e f = with-piece l (append-nil piece ∙ e) f

-- calls for the pieces of a text to its end, and the bytes that they write, one after the other
pub data Calls {T : Type 0} (to_come : T → List ℕ) (calls : T → ℕ) : T → List ℕ → Type 0 where
  written : {t u : T} {n : ℕ} {buffer more : List ℕ} → Next to_come calls t (Some (record { count = n; after = u })) buffer → Calls to_come calls u more
      → Calls to_come calls t (take n buffer ++ more)
  at-end : {t : T} (buffer : List ℕ) → Next to_come calls t None buffer → Calls to_come calls t []

-- are the text
pub calls-text : {T : Type 0} {to_come : T → List ℕ} {calls : T → ℕ} {t : T} {bytes : List ℕ} → Calls to_come calls t bytes → bytes ≡ to_come t
calls-text (written {n} {buffer} w c) = ap (λ (more : List ℕ). take n buffer ++ more) (calls-text c) ∙ w.bytes
calls-text (at-end buffer e) = sym e
