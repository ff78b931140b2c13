-- What a call for the next change of a list gives: a step of its mending. No rules of their own.
use Rattle.std.specs.Prelude.{◌≡◌, List, ℕ, take, Option, Some, None}
use Rattle.settings.specs.declared.Settings.{Settings}
use Rattle.frame.specs.Frame.{frame}
use Rattle.lines.specs.declared.Piece.{Piece}
use Rattle.lines.specs.Pieces.{Writes}
use Rattle.text.specs.Text.{frame_text}
use Rattle.mending.specs.declared.MendAnswer.{MendAnswer}
use Rattle.mending.specs.declared.MendAnswer.TheVariants.{Whole, Changed, Refused}
use Rattle.mending.specs.Mending.{mend_step, count, mended}
use Rattle.mend_text.specs.MendText.{change_line, mended_text}

-- what a call for the next change gives: its line, or that there is none, and the settings and memory then
pub record Given : Type 0 where
  pub line : Option (List ℕ)
  pub settings : Settings
  pub memory : List ℕ

abbrev pub given : Option (List ℕ) → Settings → List ℕ → Given
given line settings memory = record { line = line; settings = settings; memory = memory }

abbrev pub by_answer : Settings → MendAnswer → List ℕ → Given
by_answer σ Whole m = given None σ m
by_answer σ (Changed c σ₁) m = given (Some (change_line c)) σ₁ m
by_answer σ (Refused r) m = given None σ m

-- a step of the mending, from latch 0
unfoldable pub next_change : Settings → List ℕ → Given
next_change σ m = let s = mend_step 0 σ m in by_answer σ s.answer s.memory

-- a call's answer as that. What the buffer's bytes past the line are is left free.
abbrev pub answered : Settings → Option (Piece Settings) → List ℕ → List ℕ → Given
answered σ (Some r) m₁ buffer = given (Some (take r.count buffer)) r.after m₁
answered σ None m₁ buffer = given None σ m₁

-- the text of a list that is to be mended
abbrev pub to_mend : Settings → List ℕ → List ℕ
to_mend σ m = mended_text (mended 0 σ m)

-- so a line, then the text of the list that its change leaves, are the list's text, and fewer words are not 0. Where there is none more the list
-- is left, and its text is the draw program's.
abbrev pub Next : Settings → List ℕ → Option (Piece Settings) → List ℕ → List ℕ → Type 0
Next σ m (Some r) m₁ buffer = Writes r.count buffer (to_mend σ m) (to_mend r.after m₁) (count σ m) (count r.after m₁)
Next σ m None m₁ buffer = (m₁ ≡ m) × (to_mend σ m ≡ frame_text σ (frame 0 σ m))
