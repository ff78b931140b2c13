-- The call of a console that mends. Status 0 is an accepted call, 255 one whose slices have the wrong length; others are the refusals'
-- numbers.
use Rattle.std.specs.Prelude.{ℕ, List, [], ◌∷◌, length, set, eqb, Option, Some, None}
use Rattle.memory.specs.Word.{when◌then◌else◌}
use Rattle.settings.specs.declared.Settings.{Settings}
use Rattle.numbers.specs.Decode.{settings_in}
use Rattle.answers.specs.AnswerNumbers.{with_refusal}
use Rattle.answers.specs.Changing.{Left, left}
use Rattle.blame.specs.declared.Place.{Place}
use Rattle.blame.specs.declared.Place.TheVariants.{Register, Memory}
use Rattle.mending.specs.declared.Change.{Change}
use Rattle.mending.specs.declared.MendAnswer.{MendAnswer}
use Rattle.mending.specs.declared.MendAnswer.TheVariants.{Whole, Changed, Refused}
use Rattle.mending.specs.Mending.{place_address, Stepped, mend_step}

-- the settings' numbers with the words of the pointer at a place 0: TOW stands at 7 and 8
unfoldable pub tow_after : Place → List ℕ → List ℕ
tow_after Register settings = set (set settings 7 0) 8 0
tow_after (Memory a) settings = settings

-- the answer of a change: row and addresses 0, a mark, the pointer's address, its two old words, the refusal's number; of none, zeros
unfoldable pub change_numbers : Change → List ℕ
change_numbers c = 0 ∷ 0 ∷ 0 ∷ 1 ∷ place_address c.place ∷ c.first ∷ c.second ∷ c.number ∷ []

abbrev pub no_change : List ℕ
no_change = 0 ∷ 0 ∷ 0 ∷ 0 ∷ 0 ∷ 0 ∷ 0 ∷ 0 ∷ []

-- one step of mending
abbrev pub by_answer : List ℕ → List ℕ → List ℕ → MendAnswer → Left
by_answer settings answer m Whole = left 0 settings m no_change
by_answer settings answer m (Changed c σ) = left 0 (tow_after c.place settings) m (change_numbers c)
by_answer settings answer m (Refused r) = left r.number settings m (with_refusal r answer)

abbrev pub after_step : List ℕ → List ℕ → Stepped → Left
after_step settings answer s = by_answer settings answer s.memory s.answer

abbrev pub mend_with : List ℕ → List ℕ → ℕ → List ℕ → Option Settings → Left
mend_with settings m latch answer (Some σ) = after_step settings answer (mend_step latch σ m)
mend_with settings m latch answer None = left 255 settings m answer

unfoldable pub host_mend : List ℕ → List ℕ → ℕ → List ℕ → Left
host_mend settings m latch answer =
    when eqb (length answer) 8 then mend_with settings m latch answer (settings_in settings) else left 255 settings m answer
