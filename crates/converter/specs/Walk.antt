-- Document 02, "Segmented memory goes away": how the converter follows a reading. It "follows one unshifted frame from its start latch";
-- what the frame reads is what the definitions that draw it ask for, word by word, each with its role.
use Rattle.std.specs.Prelude.{ℕ, ◌/◌, Bool, false, ◌&&◌, not, List, length, get_or, set, ltb, eqb}
use Rattle.memory.specs.declared.Fault.{Fault}
use Rattle.memory.specs.Word.{when◌then◌else◌}
use Rattle.memory.specs.Reading.{Role, First, Second, Other, Ask, Reading, done, refuse, ask, absent}
use Rattle.memory.specs.Address.{pointer, page, place, address_of, next_word}

-- "one mark byte for each memory word": what the word was read as; 0 while it is not read
abbrev pub mark : Role → ℕ
mark First = 1
mark Second = 2
mark Other = 3

-- the word at an address
abbrev pub word_of : List ℕ → ℕ → ℕ
word_of m a = get_or m (a / 2) 0

-- where the segmented pointer in use points: its two words stand where it begins; "0 when a register held it", which then holds `held`
unfoldable pub points_at : (held : ℕ) → List ℕ → (from : ℕ) → ℕ
points_at held m from = when eqb from 0 then held else (pointer false from (word_of m from) (word_of m (next_word false from))).address

-- Refusal 18: "a block or list read on over its page end (address of the page's last word)". The word asked for begins a page, and the
-- pointer in use does not point there: a step led to it, from FFFE to 0.
unfoldable pub read_on : (held : ℕ) → List ℕ → (address from : ℕ) → Bool
read_on held m address from = eqb (place address) 0 && not (eqb address (points_at held m from))

abbrev pub over_page_end : Ask → Fault
over_page_end q = record { number = 18; address = address_of (page q.address) 65534; from = 0 }

-- Refusal 19: "a pointer word also read as anything but that word of a pointer (its address)", whichever was read before
unfoldable pub shared : (marks : List ℕ) → Ask → Bool
shared marks q = not (eqb (get_or marks (q.address / 2) 0) 0) && not (eqb (get_or marks (q.address / 2) 0) (mark q.role))

abbrev pub shared_word : Ask → Fault
shared_word q = record { number = 19; address = q.address; from = 0 }

abbrev pub marked : List ℕ → Ask → List ℕ
marked marks q = set marks (q.address / 2) (mark q.role)

-- what following a reading comes to: the marks after it with its result, or a refusal, "18 .. 19 .. and the drawing's own, as the walk
-- meets them"
pub data Walked (A : Type 0) : Type 0 where
  went : (marks : List ℕ) → A → Walked A
  halted : Fault → Walked A

-- on the memory m, with the marks so far: 18, 7, 19, then the word is marked and the reading goes on
unfoldable pub walk : {A : Type 0} → (held : ℕ) → (m marks : List ℕ) → Reading A → Walked A
walk held m marks (done a) = went marks a
walk held m marks (refuse x) = halted x
walk held m marks (ask q f) =
    when read_on held m q.address q.from then halted (over_page_end q)
    else when ltb (q.address / 2) (length m)
    then (when shared marks q then halted (shared_word q) else walk held m (marked marks q) (f (word_of m q.address)))
    else halted (absent q)
