-- The calls of a console on a soft scroll. Status 0 is an accepted call, 255 one whose slices have the wrong length or a number that no
-- field can have; others are the refusals' numbers.
use Rattle.std.specs.Prelude.{ℕ, ◌&&◌, List, ℤ, length, eqb, Option, Some, None}
use Rattle.memory.specs.Word.{when◌then◌else◌}
use Rattle.settings.specs.declared.PointerWords.{PointerWords}
use Rattle.settings.specs.declared.Settings.{Settings}
use Rattle.scroll.specs.Scroll.{shift_call}
use Rattle.numbers.specs.Decode.{settings_in}
use Rattle.answers.specs.AfterCall.{Stated, stated}
use Rattle.shifts.specs.AfterShift.{scroll_of, after_shift, BesideDone, beside_done, beside_from}

-- a shift call: status, scroll and answer
abbrev pub shift_from : List ℕ → PointerWords → List ℕ → List ℕ → Option Settings → Stated
shift_from m soft scroll answer (Some σ) = after_shift scroll answer (shift_call σ m soft (scroll_of scroll))
shift_from m soft scroll answer None = stated 255 scroll answer

unfoldable pub host_shift : List ℕ → List ℕ → PointerWords → List ℕ → List ℕ → Stated
host_shift settings m soft scroll answer =
    when eqb (length scroll) 3 && eqb (length answer) 5
    then shift_from m soft scroll answer (settings_in settings)
    else stated 255 scroll answer

-- a row beside the cut: status, row buffer, list and answer
abbrev pub beside_with : List ℕ → ℤ → PointerWords → ℕ → List ℕ → List ℕ → List ℕ → List ℕ → Option Settings → BesideDone
beside_with m shift soft latch state cells list answer (Some σ) = beside_from σ m shift soft latch state cells list answer
beside_with m shift soft latch state cells list answer None = beside_done 255 cells list answer

unfoldable pub host_beside : List ℕ → List ℕ → ℤ → PointerWords → ℕ → List ℕ → List ℕ → List ℕ → List ℕ → BesideDone
host_beside settings m shift soft latch state cells list answer =
    when eqb (length answer) 8
    then beside_with m shift soft latch state cells list answer (settings_in settings)
    else beside_done 255 cells list answer
