-- Which row has a line, found by going through the rows: what the functions of this crate give. No rules of their own.
use Rattle.std.specs.Prelude.{ℕ, suc, ◌-◌, ◌≡◌, List, [], ◌∷◌, ltb, Result, Ok, Err}
use Rattle.std.proofs.Math.Option.{Option, none, some}
use Rattle.memory.specs.Word.{when◌then◌else◌}
use Rattle.memory.specs.declared.Refusal.{Refusal}
use Rattle.settings.specs.declared.Settings.{Settings}
use Rattle.state.specs.declared.State.{State}
use Rattle.frame.specs.declared.Progress.{Progress}
use Rattle.frame.specs.Frame.{Frame, frame_row, rest}
use Rattle.picture.specs.Picture.{PictureRow, picture_row, picture_rows}
use Rattle.finding.specs.declared.Walked.{Walked}
use Rattle.finding.specs.declared.Walked.TheVariants.{At, Past, Stopped}

-- where a line is in rows, counted from a number on: the row's number, the scan line, the row; or how many lines past them it is
pub data Located : Type 0 where
  located : (index line : ℕ) → PictureRow → Located
  beyond : ℕ → Located

unfoldable pub locate : ℕ → List PictureRow → ℕ → Located
locate i [] z = beyond z
locate i (r ∷ rs) z = when ltb z r.height then located i z r else locate (suc i) rs (z - r.height)

-- the frame from a state on, and its rows; what was read before does not matter
abbrev pub from : State → Progress
from s = record { state = s; words = 0 }

abbrev pub rest_of : Settings → List ℕ → State → Frame
rest_of σ m s = rest σ m (from s)

abbrev pub rows_of : Settings → List ℕ → State → List PictureRow
rows_of σ m s = picture_rows σ m s (rest_of σ m s).rows

-- past the rows of a frame that ended, by a state or by a refusal
pub record Passed (σ : Settings) (m : List ℕ) (s : State) (z : ℕ) (refusal : Option Refusal) (k : ℕ) : Type 0 where
  pub place : locate 0 (rows_of σ m s) z ≡ beyond k
  pub ended : (rest_of σ m s).refusal ≡ refusal

-- what a walk of the rows to line z finds: the row, its cells in a buffer; or the state after the last row, or the refusal
abbrev pub Walks : Settings → List ℕ → State → ℕ → Walked → List ℕ → Type 0
Walks σ m s z (At w) cells = locate 0 (rows_of σ m s) z ≡ located w.index w.line (picture_row σ m w.before (frame_row w.row cells))
Walks σ m s z (Past t k) cells = Passed σ m s z none k × ((rest_of σ m s).state ≡ some t)
Walks σ m s z (Stopped r k) cells = Passed σ m s z (some r) k

-- how a frame ended
abbrev pub Ends : Settings → List ℕ → State → Result State Refusal → Type 0
Ends σ m s (Ok t) = ((rest_of σ m s).refusal ≡ none) × ((rest_of σ m s).state ≡ some t)
Ends σ m s (Err r) = (rest_of σ m s).refusal ≡ some r
