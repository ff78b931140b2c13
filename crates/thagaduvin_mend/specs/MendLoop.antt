-- A console that mends: it calls until a call makes no change, each time with the slices as the call before left them.
use Rattle.std.specs.Prelude.{ℕ, zero, suc, ◌<◌, ◌≡◌, Bool, false, ◌&&◌, not, List, [], ◌∷◌, map, length, get_or, eqb, Some}
use Rattle.memory.specs.Word.{when◌then◌else◌, at}
use Rattle.numbers.specs.Decode.{settings_at, settings_in}
use Rattle.answers.specs.Changing.{Left, left}
use Rattle.mending.specs.Mending.{Mended, count, mended}
use Rattle.thagaduvin_mend.specs.MendCalls.{change_numbers, host_mend}

-- a call that made a change: accepted, and CHANGED, the answer's place 3, is not 0
abbrev pub changed : Left → Bool
changed l = eqb l.status 0 && not (eqb (at l.answer 3) 0)

-- the answers of the calls that made a change, first to last, and what the last call left
pub record Loop : Type 0 where
  pub changes : List (List ℕ)
  pub last : Left

abbrev pub by_call : (List ℕ → List ℕ → List ℕ → Loop) → Left → Loop
by_call rest l =
    let d = rest l.settings l.memory l.answer in
    when changed l then record { changes = l.answer ∷ d.changes; last = d.last } else record { changes = []; last = l }

-- n calls at most
unfoldable pub calls : ℕ → ℕ → List ℕ → List ℕ → List ℕ → Loop
calls zero latch settings m answer = record { changes = []; last = left 0 settings m answer }
calls (suc n) latch settings m answer = by_call (calls n latch) (host_mend settings m latch answer)

-- the calls come to the mending d
pub record Comes (d : Mended) (l : Loop) : Type 0 where
  -- each change, with its numbers
  pub changes : l.changes ≡ map change_numbers d.changes
  -- the mended list: memory, and numbers that are read as its settings
  pub memory : l.last.memory ≡ d.memory
  pub settings : settings_in l.last.settings ≡ Some d.settings
  -- the last call made no change
  pub ended : changed l.last ≡ false

-- as many calls as there are words that are not 0, registers counted, and one more are enough
abbrev pub CallsMend : Type 0
CallsMend = (n latch : ℕ) (settings m answer : List ℕ) → length settings ≡ 18 → length answer ≡ 8 → ((i : ℕ) → get_or m i 0 < 65536)
    → count (settings_at settings) m < n → Comes (mended latch (settings_at settings) m) (calls n latch settings m answer)
