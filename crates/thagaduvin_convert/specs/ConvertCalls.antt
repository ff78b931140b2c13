-- The call of a console that converts. Status 0 is an accepted call, 255 one whose settings or answer have the wrong length; others are
-- the refusals' numbers. The number of marks is judged by refusal 22; what they hold is free.
use Rattle.std.specs.Prelude.{ℕ, List, [], ◌∷◌, length, set, eqb, Option, Some, None, Result, Ok, Err}
use Rattle.memory.specs.Word.{when◌then◌else◌}
use Rattle.memory.specs.declared.Refusal.{Refusal}
use Rattle.settings.specs.declared.Settings.{Settings}
use Rattle.numbers.specs.Decode.{settings_in}
use Rattle.answers.specs.AnswerNumbers.{one_number}
use Rattle.answers.specs.Changing.{Left, left}
use Rattle.converter.specs.Converter.{Called, convert_call}
use Rattle.converter.specs.declared.Conversion.{Conversion}

-- the settings' numbers once they were turned: linear stands at 0, the first words of TOP and TOW at 5 and 7; all others stay
unfoldable pub settings_after : Settings → List ℕ → List ℕ
settings_after turned settings = set (set (set settings 0 1) 5 turned.top.first) 7 turned.tow.first

-- the answer of a refusal: its row and addresses, and no pointer
unfoldable pub refusal_numbers : Refusal → List ℕ
refusal_numbers r = r.row ∷ r.address ∷ r.from ∷ 0 ∷ []

-- "A refusal changes nothing but marks."
abbrev pub by_answer : List ℕ → List ℕ → Result Conversion Refusal → Left
by_answer settings m (Ok c) = left 0 (settings_after c.settings settings) m (one_number c.pointers)
by_answer settings m (Err r) = left r.number settings m (refusal_numbers r)

abbrev pub after_call : List ℕ → Called → Left
after_call settings c = by_answer settings c.memory c.answer

abbrev pub convert_with : List ℕ → List ℕ → ℕ → ℕ → List ℕ → Option Settings → Left
convert_with settings m marks latch answer (Some σ) = after_call settings (convert_call latch σ m marks)
convert_with settings m marks latch answer None = left 255 settings m answer

-- of settings, memory, the number of marks, the latch and the answer
unfoldable pub host_convert : List ℕ → List ℕ → ℕ → ℕ → List ℕ → Left
host_convert settings m marks latch answer =
    when eqb (length answer) 4 then convert_with settings m marks latch answer (settings_in settings) else left 255 settings m answer
