-- A frame: one start and its row calls until no line is left. Document 01 speaks of it in "A frame starts with row attributes 0, M6's
-- lines, CURS 0, CURE 31." and of its end in "the lines run out"; 02 in "A frame starts with the latch that the frame before ended
-- with" and "A refused frame".
use Rattle.std.specs.Prelude.{ℕ, zero, suc, ◌+◌, List, [], ◌∷◌, replicate, Result, Ok, Err}
use Rattle.std.proofs.Math.Option.{Option, none, some}
use Rattle.memory.specs.declared.Refusal.{Refusal}
use Rattle.settings.specs.declared.Settings.{Settings}
use Rattle.state.specs.declared.State.{State}
use Rattle.row.specs.declared.DrawnRow.{DrawnRow}
use Rattle.frame.specs.declared.Progress.{Progress}
use Rattle.frame.specs.declared.StepAnswer.{StepAnswer}
use Rattle.frame.specs.declared.StepAnswer.TheVariants.{Drawn, Ended, Refused}
use Rattle.frame.specs.Step.{begin, Stepped, step}

-- an accepted row: its answer and its cells
pub record FrameRow : Type 0 where
  pub answer : DrawnRow
  pub cells : List ℕ

abbrev pub frame_row : DrawnRow → List ℕ → FrameRow
frame_row r cells = record { answer = r; cells = cells }

-- what a frame comes to: its accepted rows, first to last; the refusal that ended it, the start's or a row's, if there is one; the
-- words of its start and its accepted rows together; the state that it ended with, if its start was accepted
pub record Frame : Type 0 where
  pub rows : List FrameRow
  pub refusal : Option Refusal
  pub words : ℕ
  pub state : Option State

-- a frame that draws no row more. After a refusal its state is the one that the row was called on: "State and buffer stay"
abbrev pub stopped : Option Refusal → Progress → Frame
stopped refusal p = record { rows = []; refusal = refusal; words = p.words; state = some p.state }

-- "a refused start gives no state", and a refusal tells no count of words
abbrev pub not_started : Refusal → Frame
not_started r = record { rows = []; refusal = some r; words = 0; state = none }

-- a row, and the frame from there
abbrev pub with_row : DrawnRow → List ℕ → Frame → Frame
with_row r cells f = record { rows = frame_row r cells ∷ f.rows; refusal = f.refusal; words = f.words; state = f.state }

-- the frame in progress p, by its next step: `rest` gives the frame from the row on. A refusal comes "after the rows already drawn",
-- and the frame ends with it
abbrev pub by_answer : (Progress → Frame) → Progress → StepAnswer → List ℕ → Frame
by_answer rest p (Drawn r q) cells = with_row r cells (rest q)
by_answer rest p (Ended rows words) cells = stopped none p
by_answer rest p (Refused r) cells = stopped (some r) p

abbrev pub by_step : (Progress → Frame) → Progress → Stepped → Frame
by_step rest p s = by_answer rest p s.answer s.buffer

-- Each row is lent a right buffer: "A call refused 1 is no row". It may as well hold other cells (`StepLaws.any-buffer`).
abbrev pub blank : List ℕ
blank = replicate 132 0

-- the frame in progress p, followed for n rows at most
unfoldable pub within : ℕ → Settings → List ℕ → Progress → Frame
within zero σ m p = stopped none p
within (suc n) σ m p = by_step (within n σ m) p (step σ m p blank)

-- "Row chains may loop: the lines run out." Each row takes one or more, so that as many rows as lines are left are enough.
unfoldable pub rest : Settings → List ℕ → Progress → Frame
rest σ m p = within p.state.fields.left σ m p

abbrev pub from_begin : Settings → List ℕ → Result Progress Refusal → Frame
from_begin σ m (Ok p) = rest σ m p
from_begin σ m (Err r) = not_started r

-- the frame from a start latch
unfoldable pub frame : ℕ → Settings → List ℕ → Frame
frame latch σ m = from_begin σ m (begin latch σ m)

-- What a frame hands on: "A frame starts with the latch that the frame before ended with", that of its last row; "A refused frame
-- hands on the latch it was started with."
abbrev pub latch_of : ℕ → Option State → ℕ
latch_of latch none = latch
latch_of latch (some s) = s.latch

abbrev pub handed_on_by : ℕ → Option Refusal → Option State → ℕ
handed_on_by latch none s = latch_of latch s
handed_on_by latch (some r) s = latch

abbrev pub handed_on : ℕ → Frame → ℕ
handed_on latch f = handed_on_by latch f.refusal f.state

-- what a frame is drawn from
pub record Screen : Type 0 where
  pub settings : Settings
  pub memory : List ℕ

-- frames in a row, the first from a latch
unfoldable pub frames : ℕ → List Screen → List Frame
frames latch [] = []
frames latch (d ∷ ds) =
    let f : Frame = frame latch d.settings d.memory in
    f ∷ frames (handed_on latch f) ds

-- "the first after reset with 0"
abbrev pub from_reset : List Screen → List Frame
from_reset ds = frames 0 ds

-- the words of rows together
unfoldable pub row_words : List FrameRow → ℕ
row_words [] = 0
row_words (r ∷ rs) = r.answer.words + row_words rs
