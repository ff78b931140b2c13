-- A frame in progress: how it begins, and one step of it.
use Rattle.std.specs.Prelude.{ℕ, ◌+◌, ◌*◌, ◌<◌, min, List, eqb, Result, Ok, Err}
use Rattle.memory.specs.Word.{when◌then◌else◌}
use Rattle.memory.specs.Reading.{run}
use Rattle.memory.specs.declared.Refusal.{Refusal}
use Rattle.settings.specs.declared.Settings.{Settings}
use Rattle.row.specs.declared.DrawnRow.{DrawnRow}
use Rattle.start.specs.Start.{start_from, started}
use Rattle.start.specs.declared.Started.{Started}
use Rattle.row.specs.Row.{Called, row_call}
use Rattle.frame.specs.declared.Progress.{Progress}
use Rattle.frame.specs.declared.StepAnswer.{StepAnswer}
use Rattle.frame.specs.declared.StepAnswer.TheVariants.{Drawn, Ended, Refused}

-- a frame in progress before its first row; "a refused start gives no state"
abbrev pub begun : Result Started Refusal → Result Progress Refusal
begun (Ok a) = Ok (record { state = a.state; words = a.words })
begun (Err r) = Err r

-- a start, from the latch that the frame before handed on
unfoldable pub begin : ℕ → Settings → List ℕ → Result Progress Refusal
begin latch σ m = begun (started (run m (start_from latch σ)))

-- the frame in progress after an accepted row: the row's next state, and "every word read"
abbrev pub after : Progress → DrawnRow → Progress
after p r = record { state = r.next; words = p.words + r.words }

-- a row call's answer, as a step of the frame in progress p
abbrev pub row_step : Progress → Result DrawnRow Refusal → StepAnswer
row_step p (Ok r) = Drawn r (after p r)
row_step p (Err r) = Refused r

-- a step's answer, and what its row buffer then holds
pub record Stepped : Type 0 where
  pub answer : StepAnswer
  pub buffer : List ℕ

abbrev pub stepped : StepAnswer → List ℕ → Stepped
stepped answer buffer = record { answer = answer; buffer = buffer }

-- one step: the row call, while a line is left. Rows are numbered from 0, so the number of the row that would come is their count.
unfoldable pub step : Settings → List ℕ → Progress → List ℕ → Stepped
step σ m p buffer =
    let c : Called = row_call σ m p.state buffer in
    when eqb p.state.fields.left 0
    then stepped (Ended p.state.fields.row p.words) buffer
    else stepped (row_step p c.answer) c.buffer

-- "a row reads fewer than 12,000", and so does a start: a bound on the words that a frame has read before row n, which is 4095 at most. A
-- frame in progress that no start and rows make may have any count: one above the bound counts as the bound.
abbrev pub words_bound : ℕ → ℕ
words_bound n = 12000 * (min n 4095 + 1)

abbrev pub in_bound : Progress → Progress
in_bound p = record { state = p.state; words = min p.words (words_bound p.state.fields.row) }

-- "the lines run out": fewer are left after a row
abbrev pub FewerLines : Progress → StepAnswer → Type 0
FewerLines p (Drawn r q) = q.state.fields.left < p.state.fields.left
FewerLines p (Ended rows words) = Unit
FewerLines p (Refused r) = Unit
