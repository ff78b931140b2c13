-- A frame below its checks on the settings: a start's main block and window, and rows from their states on, as the calls draw them once
-- checks on the settings are met. The converter follows these; a segmented frame is one.
use Rattle.std.specs.Prelude.{ℕ, zero, suc, ◌/◌, List, [], ◌∷◌, ◌++◌, length, get_or, ltb, eqb, Result, Ok, Err}
use Rattle.std.proofs.Math.Option.{none}
use Rattle.memory.specs.Word.{when◌then◌else◌}
use Rattle.memory.specs.Reading.{Role, First, Second, Other, Reading, done, refuse, ask, ◌>>=◌, Outcome, given, refused, run, asked}
use Rattle.memory.specs.declared.Refusal.{Refusal}
use Rattle.settings.specs.declared.Settings.{Settings}
use Rattle.state.specs.declared.State.{State}
use Rattle.state.specs.State.{state_of}
use Rattle.plan.specs.Plan.{from_state}
use Rattle.start.specs.Start.{main_start, started}
use Rattle.row.specs.Row.{Row, from_plan, Called, answered}
use Rattle.frame.specs.declared.Progress.{Progress}
use Rattle.frame.specs.declared.StepAnswer.TheVariants.{Ended}
use Rattle.frame.specs.Step.{begun, Stepped, stepped, row_step}
use Rattle.frame.specs.Frame.{Frame, stopped, not_started, by_step, blank}

-- a row from check 3 on
unfoldable pub row_below : Settings → State → Reading Row
row_below σ s = do
  p ← from_state σ s.fields
  from_plan σ s.fields.fill s.latch p

-- as `Step.step`, with a right buffer
unfoldable pub step_below : Settings → List ℕ → Progress → Stepped
step_below σ m p =
    let c : Called = answered σ p.state.fields blank (run m (row_below σ p.state)) in
    when eqb p.state.fields.left 0
    then stepped (Ended p.state.fields.row p.words) blank
    else stepped (row_step p c.answer) c.buffer

-- as `Frame.within`, `Frame.from_begin` and `Frame.frame`
unfoldable pub within_below : ℕ → Settings → List ℕ → Progress → Frame
within_below zero σ m p = stopped none p
within_below (suc n) σ m p = by_step (within_below n σ m) p (step_below σ m p)

abbrev pub from_begun : Settings → List ℕ → Result Progress Refusal → Frame
from_begun σ m (Ok p) = within_below p.state.fields.left σ m p
from_begun σ m (Err r) = not_started r

unfoldable pub frame_below : ℕ → Settings → List ℕ → Frame
frame_below latch σ m = from_begun σ m (begun (started (run m (main_start latch σ))))

-- ---- the addresses of the words that it reads, in order ----
-- the state after a row
abbrev pub state_after : Row → State
state_after r = state_of r.drawing.pen.latch r.next

-- those of the rows from a state on, n rows at most
abbrev pub then_read : {A : Type 0} → (A → List ℕ) → Outcome A → List ℕ
then_read next (given n a) = next a
then_read next (refused x) = []

unfoldable pub rows_read : ℕ → Settings → List ℕ → State → List ℕ
rows_read zero σ m s = []
rows_read (suc n) σ m s =
    when eqb s.fields.left 0 then []
    else asked m (row_below σ s) ++ then_read (λ r. rows_read n σ m (state_after r)) (run m (row_below σ s))

unfoldable pub frame_read : ℕ → Settings → List ℕ → List ℕ
frame_read latch σ m =
    asked m (main_start latch σ) ++ then_read (λ s. rows_read s.fields.left σ m s) (run m (main_start latch σ))

-- ---- the addresses of the words that it reads as first words of pointers, in order ----
abbrev pub if_first : Role → ℕ → List ℕ → List ℕ
if_first First a rest = a ∷ rest
if_first Second a rest = rest
if_first Other a rest = rest

unfoldable pub first_words : {A : Type 0} → List ℕ → Reading A → List ℕ
first_words m (done a) = []
first_words m (refuse x) = []
first_words m (ask q f) = if_first q.role q.address (when ltb (q.address / 2) (length m) then first_words m (f (get_or m (q.address / 2) 0)) else [])

unfoldable pub rows_pointers : ℕ → Settings → List ℕ → State → List ℕ
rows_pointers zero σ m s = []
rows_pointers (suc n) σ m s =
    when eqb s.fields.left 0 then []
    else first_words m (row_below σ s) ++ then_read (λ r. rows_pointers n σ m (state_after r)) (run m (row_below σ s))

unfoldable pub frame_pointers : ℕ → Settings → List ℕ → List ℕ
frame_pointers latch σ m =
    first_words m (main_start latch σ) ++ then_read (λ s. rows_pointers s.fields.left σ m s) (run m (main_start latch σ))
