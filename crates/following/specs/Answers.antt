-- What the functions of this crate give, with the marks that they leave, as what following a frame gives: no rules of their own.
use Rattle.std.specs.Prelude.{ℕ, List, Option, Result, Ok, Err}
use Rattle.memory.specs.Reading.{Reading, done, ◌>>=◌, ◌>>◌, check}
use Rattle.memory.specs.declared.Refusal.{Refusal}
use Rattle.memory.specs.declared.Fault.{Fault}
use Rattle.settings.specs.declared.Settings.{Settings}
use Rattle.windows.specs.declared.Window.{Window}
use Rattle.state.specs.declared.Fields.{Fields}
use Rattle.state.specs.declared.State.{State}
use Rattle.layout.specs.Layout.{edges_fit}
use Rattle.layout.specs.Overlay.{overlaid}
use Rattle.background.specs.Background.{background_row}
use Rattle.plan.specs.Plan.{Plan, planned}
use Rattle.row.specs.Row.{Row}
use Rattle.converter.specs.Walk.{Walked, went, halted}
use Rattle.converter.specs.Below.{state_after}
use Rattle.converter.specs.Converter.{Followed, ended, stopped}

-- the blocks of a row once its window is known
abbrev pub from_background : Settings → Fields → Option Window → Reading Plan
from_background σ f w = do
  g ← background_row σ f
  o ← overlaid σ f.row w
  check 12 (edges_fit σ.hidden o.overlay g.block.segments)
  done (planned f g o)

-- a row's walk by the state after the row
abbrev pub state_of_walk : Walked Row → Walked State
state_of_walk (went marks r) = went marks (state_after r)
state_of_walk (halted x) = halted x

-- the answer of `walk_row`, with the marks
abbrev pub row_walked : Result State Fault → List ℕ → Walked State
row_walked (Ok s) marks = went marks s
row_walked (Err x) marks = halted x

-- the answer of `follow`, with the marks
abbrev pub followed : Result (Unit {0}) Refusal → List ℕ → Followed
followed (Ok tt) marks = ended marks
followed (Err r) marks = stopped r
