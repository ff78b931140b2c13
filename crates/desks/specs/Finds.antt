-- A frame on a memory that may change between its calls. Document 02: "Demand 2 reads memory as each call finds it". And the addresses of
-- the words that each of its calls reads: "The addresses of the words read, in order, are wanted from a start and a row".
use Rattle.std.specs.Prelude.{ℕ, zero, suc, ◌/◌, List, [], ◌∷◌, ◌++◌, ℤ, pos, length, eqb, ltb, Result, Ok, Err}
use Rattle.std.proofs.Math.Option.{Option, none, some}
use Rattle.std.specs.Int.Signed.{lt_z}
use Rattle.memory.specs.Word.{when◌then◌else◌}
use Rattle.memory.specs.Reading.{Reading, ◌>>=◌, asked}
use Rattle.memory.specs.declared.Refusal.{Refusal}
use Rattle.settings.specs.declared.PointerWords.{PointerWords}
use Rattle.settings.specs.declared.Settings.{Settings}
use Rattle.state.specs.declared.State.{State}
use Rattle.state.specs.State.{state_of}
use Rattle.start.specs.Start.{start_from}
use Rattle.row.specs.Row.{row}
use Rattle.frame.specs.declared.Progress.{Progress}
use Rattle.frame.specs.declared.StepAnswer.{StepAnswer}
use Rattle.frame.specs.declared.StepAnswer.TheVariants.{Drawn, Ended, Refused}
use Rattle.frame.specs.Step.{begin, step}
use Rattle.frame.specs.Frame.{Frame, stopped, not_started, by_step, blank}
use Rattle.beside.specs.Beside.{BesideCalled, with_one_line, with_top, beside_call}

-- the addresses that are in memory
unfoldable pub in_memory : List ℕ → List ℕ → List ℕ
in_memory m [] = []
in_memory m (a ∷ l) = when ltb (a / 2) (length m) then a ∷ in_memory m l else in_memory m l

-- the addresses of the words that a reading reads, in order: those that it asks for, but for the missing word of a refusal 7
abbrev pub words_read : {A : Type 0} → List ℕ → Reading A → List ℕ
words_read m p = in_memory m (asked m p)

-- memory as each call of a frame finds it: number 0 is what the start finds, number 1 what row 0 finds, and so on
abbrev pub Finds : Type 0
Finds = ℕ → List ℕ

-- what the calls after the first find
abbrev pub later : Finds → Finds
later ms n = ms (suc n)

-- the row buffers that its rows are lent, row 0's first
abbrev pub Buffers : Type 0
Buffers = ℕ → List ℕ

-- ---- the frame: `frame` of frame/specs/Frame.antt, each call on the memory that it finds and with the row buffer that it is lent; where that
-- has another number of cells, the frame ends with refusal 1 ----

unfoldable pub within_lent : ℕ → Settings → Finds → Buffers → Progress → Frame
within_lent zero σ ms bs p = stopped none p
within_lent (suc n) σ ms bs p = by_step (within_lent n σ (later ms) (later bs)) p (step σ (ms 0) p (bs 0))

abbrev pub from_begin_lent : Settings → Finds → Buffers → Result Progress Refusal → Frame
from_begin_lent σ ms bs (Ok p) = within_lent p.state.fields.left σ ms bs p
from_begin_lent σ ms bs (Err r) = not_started r

unfoldable pub frame_lent : ℕ → Settings → Finds → Buffers → Frame
frame_lent latch σ ms bs = from_begin_lent σ (later ms) bs (begin latch σ (ms 0))

-- with right buffers
abbrev pub frame_over : ℕ → Settings → Finds → Frame
frame_over latch σ ms = frame_lent latch σ ms λ _. blank

-- ---- its lists, with right buffers: for each of its calls, the start first, the addresses of the words read, in order. A refused call has its list here too:
-- what it read before it was refused ----

abbrev pub lists_after : (Progress → List (List ℕ)) → StepAnswer → List (List ℕ)
lists_after rest (Drawn r q) = rest q
lists_after rest (Ended rows words) = []
lists_after rest (Refused r) = []

-- where no line is left no row is called
unfoldable pub lists_within : ℕ → Settings → Finds → Progress → List (List ℕ)
lists_within zero σ ms p = []
lists_within (suc n) σ ms p =
    when eqb p.state.fields.left 0
    then []
    else words_read (ms 0) (row σ p.state) ∷ lists_after (lists_within n σ (later ms)) (step σ (ms 0) p blank).answer

abbrev pub from_begin_lists : Settings → Finds → Result Progress Refusal → List (List ℕ)
from_begin_lists σ ms (Ok p) = lists_within p.state.fields.left σ ms p
from_begin_lists σ ms (Err r) = []

unfoldable pub lists : ℕ → Settings → Finds → List (List ℕ)
lists latch σ ms = words_read (ms 0) (start_from latch σ) ∷ from_begin_lists σ (later ms) (begin latch σ (ms 0))

-- all of them in one list
unfoldable pub joined : List (List ℕ) → List ℕ
joined [] = []
joined (l ∷ ls) = l ++ joined ls

-- the addresses of the words that a frame reads on a memory that stays
abbrev pub reads_of : ℕ → Settings → List ℕ → List ℕ
reads_of latch σ m = joined (lists latch σ λ _. m)

-- ---- the row beside the cut of a frame that is shifted, which is a call of its own after the frame's ----

-- what it is called with, beside the frame's settings, start latch and last state: the shift, the soft top and a row buffer. A frame whose
-- start was refused has no state; then any is handed in, and up no row is drawn.
pub record Cut : Type 0 where
  pub shift : ℤ
  pub soft : PointerWords
  pub buffer : List ℕ
  pub other : State

abbrev pub last_of : State → Option State → State
last_of other none = other
last_of other (some s) = s

abbrev pub beside_after : ℕ → Settings → List ℕ → Cut → Frame → BesideCalled
beside_after latch σ m c f = beside_call σ m c.shift c.soft latch (last_of c.other f.state) c.buffer

-- the words that it reads: up, a row's; down, those of a start and then of its row 0
unfoldable pub beside_read : Settings → List ℕ → ℤ → PointerWords → ℕ → State → List ℕ
beside_read σ m shift soft latch last =
    let down : Settings = with_top σ soft in
    when lt_z (pos 0) shift then words_read m (row σ (state_of last.latch (with_one_line last.fields)))
    else when lt_z shift (pos 0) then words_read m (start_from latch down >>= row down)
    else []

abbrev pub beside_list : ℕ → Settings → List ℕ → Cut → Frame → List ℕ
beside_list latch σ m c f = beside_read σ m c.shift c.soft latch (last_of c.other f.state)
