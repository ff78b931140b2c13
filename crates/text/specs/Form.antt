-- The text of a frame and of a script, whatever form its rows and its end have; what of it is still to come, and what a call for
-- its next lines gives.
use Rattle.std.specs.Prelude.{ℕ, ◌+◌, ◌≡◌, List, [], ◌∷◌, ◌++◌, length}
use Rattle.std.proofs.Math.Option.{Option, none, some}
use Rattle.std.specs.Prelude as P
use Rattle.memory.specs.declared.Refusal.{Refusal}
use Rattle.settings.specs.declared.Settings.{Settings}
use Rattle.frame.specs.Step.{in_bound}
use Rattle.frame.specs.Frame.{FrameRow, Frame, rest, frame}
use Rattle.lines.specs.Lines.{Line, refusal_line, script_line}
use Rattle.lines.specs.declared.Piece.{Piece}
use Rattle.lines.specs.Pieces as Pieces
use Rattle.script.specs.Script.{Outcome, drawn, refused_at}
use Rattle.text.specs.declared.Text.{Text}
use Rattle.text.specs.declared.Text.TheVariants.{Rows, Refused, NoScript, Ended}

-- what is written of a row, and what follows the last row where no refusal does: of how many rows there were and of the words read
pub record Form : Type 0 where
  pub row : Settings → FrameRow → List ℕ
  pub end : ℕ → ℕ → List ℕ

-- the end is a line, or nothing is written of it
abbrev pub Ends : List ℕ → P.Option ℕ → (buffer : List ℕ) → Type 0
Ends end (P.Some n) buffer = Line end n buffer
Ends end P.None buffer = end ≡ []

-- a bound on the calls that it takes to the text's end
abbrev pub calls : Text → ℕ
calls (Rows σ p) = p.state.fields.left + 1
calls (Refused r) = 1
calls (NoScript n) = 1
calls Ended = 0

module _ (f : Form) where
  unfoldable pub rows_text : Settings → List FrameRow → List ℕ
  rows_text σ [] = []
  rows_text σ (r ∷ rs) = f.row σ r ++ rows_text σ rs

  -- "A refusal prints `refused N row R at AAAAAA` after the rows already drawn, and ends the output with no end line."
  abbrev pub last_line : Option Refusal → ℕ → ℕ → List ℕ
  last_line none rows words = f.end rows words
  last_line (some r) rows words = refusal_line r

  -- the text of a frame. "The end line adds the start's words": a frame's words are those of its start and its rows together
  unfoldable pub frame_text : Settings → Frame → List ℕ
  frame_text σ x = rows_text σ x.rows ++ last_line x.refusal (length x.rows) x.words

  -- a script that draws prints its frame, the first one: from latch 0
  abbrev pub outcome_text : Outcome → List ℕ
  outcome_text (drawn σ m) = frame_text σ (frame 0 σ m)
  outcome_text (refused_at n) = script_line n

  -- the text of a frame in progress: its next row's number counts the rows before
  abbrev pub from_row : Settings → ℕ → Frame → List ℕ
  from_row σ row x = rows_text σ x.rows ++ last_line x.refusal (row + length x.rows) x.words

  unfoldable pub to_come : List ℕ → Text → List ℕ
  to_come m (Rows σ p) = from_row σ p.state.fields.row (rest σ m (in_bound p))
  to_come m (Refused r) = refusal_line r
  to_come m (NoScript n) = script_line n
  to_come m Ended = []

  -- a call gives the next lines, or says that the text is at its end
  abbrev pub Next : (memory : List ℕ) → Text → P.Option (Piece Text) → (buffer : List ℕ) → Type 0
  Next m = Pieces.Next (to_come m) calls
