-- The calls of a console on the lines of the panel. They read no memory and no state.
use Rattle.std.specs.Prelude.{ℕ, ◌&&◌, List, ℤ, length, eqb}
use Rattle.memory.specs.Word.{when◌then◌else◌}
use Rattle.panel.specs.Line.{line}
use Rattle.panel.specs.Shown.{Layer, ShowCalled, show_call}
use Rattle.line_numbers.specs.LineNumbers.{line_numbers, line_asked}
use Rattle.answers.specs.AfterCall.{Answered, answered}

-- A line: status and answer. 255 where the answer has not seven places, or a number is past its range.
unfoldable pub host_line : ℤ → (above : ℕ) → (heights : List ℕ) → (rows y : ℕ) → List ℕ → Answered
host_line shift above heights rows y answer =
    when eqb (length answer) 7 && line_asked shift above heights rows
    then answered 0 (line_numbers (line shift above heights rows y))
    else answered 255 answer

-- The cells of a line: status and cells. 1 where a count is not 132, nor 0 where there may be no row.
abbrev pub shown_answered : ShowCalled → Answered
shown_answered c = answered (when c.accepted then 0 else 1) c.cells

unfoldable pub host_shown : Layer → Layer → (behind cells : List ℕ) → Answered
host_shown s b behind cells = shown_answered (show_call s b behind cells)
