-- The calls of a console: what each leaves in the slices that it was lent, and its status. Status 0 is an accepted call, 255 one
-- whose slices have the wrong length or a number that no field can have; others are the refusals' numbers of document 01.
use Rattle.std.specs.Prelude.{ℕ, ◌&&◌, List, length, eqb, Option, Some, None}
use Rattle.memory.specs.Word.{when◌then◌else◌}
use Rattle.settings.specs.declared.Settings.{Settings}
use Rattle.settings.specs.Sheet.{sheet_call}
use Rattle.state.specs.declared.State.{State}
use Rattle.listed.specs.Listed.{start_listed, row_listed}
use Rattle.frame.specs.HandedOn.{latch_after}
use Rattle.numbers.specs.Decode.{settings_in, state_in}
use Rattle.answers.specs.AnswerNumbers.{one_number}
use Rattle.answers.specs.AfterCall.{Answered, answered, after_sheet}
use Rattle.listed_answers.specs.AfterListed.{StatedListed, stated_listed, after_start_listed, DrawnListed, drawn_listed, after_row_listed}

-- the settings sheet
abbrev pub sheet_from : List ℕ → Option Settings → Answered
sheet_from answer (Some σ) = after_sheet answer (sheet_call σ)
sheet_from answer None = answered 255 answer

unfoldable pub host_sheet : List ℕ → List ℕ → Answered
host_sheet settings answer = when eqb (length answer) 21 then sheet_from answer (settings_in settings) else answered 255 answer

-- a start; the list is document 02's, of any length
abbrev pub start_from : List ℕ → ℕ → List ℕ → List ℕ → List ℕ → Option Settings → StatedListed
start_from m latch state list answer (Some σ) = after_start_listed state answer (start_listed latch σ m list)
start_from m latch state list answer None = stated_listed 255 state list answer

unfoldable pub host_start : List ℕ → List ℕ → ℕ → List ℕ → List ℕ → List ℕ → StatedListed
host_start settings m latch state list answer =
    when eqb (length state) 23 && eqb (length answer) 4
    then start_from m latch state list answer (settings_in settings)
    else stated_listed 255 state list answer

-- a row
abbrev pub row_from : Settings → List ℕ → List ℕ → List ℕ → List ℕ → List ℕ → Option State → DrawnListed
row_from σ m state cells list answer (Some s) = after_row_listed state answer (row_listed σ m s cells list)
row_from σ m state cells list answer None = drawn_listed 255 state cells list answer

abbrev pub row_with : List ℕ → List ℕ → List ℕ → List ℕ → List ℕ → Option Settings → DrawnListed
row_with m state cells list answer (Some σ) = row_from σ m state cells list answer (state_in state)
row_with m state cells list answer None = drawn_listed 255 state cells list answer

unfoldable pub host_row : List ℕ → List ℕ → List ℕ → List ℕ → List ℕ → List ℕ → DrawnListed
host_row settings m state cells list answer =
    when eqb (length answer) 8 then row_with m state cells list answer (settings_in settings) else drawn_listed 255 state cells list answer

-- the latch that a frame hands on
abbrev pub latch_from : ℕ → List ℕ → Option State → Answered
latch_from latch answer (Some s) = answered 0 (one_number (latch_after latch s))
latch_from latch answer None = answered 255 answer

unfoldable pub host_latch : ℕ → List ℕ → List ℕ → Answered
host_latch latch state answer = when eqb (length answer) 4 then latch_from latch answer (state_in state) else answered 255 answer
