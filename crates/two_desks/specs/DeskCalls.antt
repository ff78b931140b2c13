-- The calls of a desk: what each answers on the memory that it finds, which words it reads, and what it leaves.
use Rattle.std.specs.Prelude.{ℕ, ◌&&◌, List, [], ℤ, length, eqb, Result, Ok, Err}
use Rattle.memory.specs.Word.{when◌then◌else◌}
use Rattle.memory.specs.declared.Refusal.{Refusal}
use Rattle.settings.specs.declared.PointerWords.{PointerWords}
use Rattle.settings.specs.declared.Settings.{Settings}
use Rattle.state.specs.declared.State.{State}
use Rattle.start.specs.Start.{start_from}
use Rattle.row.specs.Row as Rows
use Rattle.scroll.specs.declared.Scroll.{Scroll}
use Rattle.scroll.specs.Scroll as Scrolls
use Rattle.listed.specs.Listed.{StartListed, start_listed, RowListed, row_listed}
use Rattle.listed_beside.specs.ListedBeside.{BesideListed, beside_listed}
use Rattle.desks.specs.Finds.{words_read, beside_read}
use Rattle.writer.specs.declared.Span.{Span}
use Rattle.writer.specs.Writer.{write_word}
use Rattle.start.specs.declared.Started.{Started}
use Rattle.scroll.specs.declared.FrameShift.{FrameShift}
use Rattle.row.specs.declared.DrawnRow.{DrawnRow}

-- What a desk calls: a start from a latch; a row; a shift call; the row beside the cut; a writer call. Settings, buffers and lists are
-- those of the call, of any size; the state is the desk's.
pub data Call : Type 0 where
  start : Settings → (latch : ℕ) → (list : List ℕ) → Call
  row : Settings → (buffer list : List ℕ) → Call
  shift : Settings → (soft : PointerWords) → Scroll → Call
  beside : Settings → (shift : ℤ) → (soft : PointerWords) → (latch : ℕ) → (buffer list : List ℕ) → Call
  write : (address word : ℕ) → Call

-- what it gets: the answer, with buffer and list as they then are
pub data Answer : Type 0 where
  started : StartListed → Answer
  drawn : RowListed → Answer
  shifted : Result FrameShift Refusal → Answer
  besides : BesideListed → Answer
  wrote : Result (Unit {0}) Refusal → Answer

-- the addresses of the words that a call reads: none where 1 or 25 refuses it
abbrev pub sized : (buffer list : List ℕ) → List ℕ → List ℕ
sized buffer list addresses = when eqb (length buffer) 132 && eqb (length list) 12000 then addresses else []

unfoldable pub read_by : List ℕ → State → Call → List ℕ
read_by m s (start σ latch list) = when eqb (length list) 12000 then words_read m (start_from latch σ) else []
read_by m s (row σ buffer list) = sized buffer list (words_read m (Rows.row σ s))
read_by m s (shift σ soft last) = words_read m (Scrolls.shift σ soft last)
read_by m s (beside σ z soft latch buffer list) = sized buffer list (beside_read σ m z soft latch s)
read_by m s (write a w) = []

unfoldable pub answer : (own other : Span) → List ℕ → State → Call → Answer
answer own other m s (start σ latch list) = started (start_listed latch σ m list)
answer own other m s (row σ buffer list) = drawn (row_listed σ m s buffer list)
answer own other m s (shift σ soft last) = shifted (Scrolls.shift_call σ m soft last)
answer own other m s (beside σ z soft latch buffer list) = besides (beside_listed σ m z soft latch s buffer list)
answer own other m s (write a w) = wrote (write_word m own other a w).answer

-- the state after it: an accepted start's, or an accepted row's next one; else as it was
abbrev pub after_start : State → Result Started Refusal → State
after_start s (Ok a) = a.state
after_start s (Err r) = s

abbrev pub after_row : State → Result DrawnRow Refusal → State
after_row s (Ok r) = r.next
after_row s (Err r) = s

unfoldable pub state_after : State → Answer → State
state_after s (started a) = after_start s a.answer
state_after s (drawn a) = after_row s a.answer
state_after s (shifted a) = s
state_after s (besides a) = s
state_after s (wrote a) = s

-- memory after it
unfoldable pub memory_after : (own other : Span) → List ℕ → Call → List ℕ
memory_after own other m (start σ latch list) = m
memory_after own other m (row σ buffer list) = m
memory_after own other m (shift σ soft last) = m
memory_after own other m (beside σ z soft latch buffer list) = m
memory_after own other m (write a w) = (write_word m own other a w).memory
