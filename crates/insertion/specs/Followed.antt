-- The terms of request §13: the states that a frame's rows are called on, where the changed link is followed, and which words are read for
-- anything else.
use Rattle.std.specs.Prelude.{ℕ, suc, ◌+◌, ◌/◌, Bool, true, ◌&&◌, not, List, [], ◌∷◌, ◌++◌, drop, eqb, Result, Ok, Err}
use Rattle.memory.specs.Word.{when◌then◌else◌, at}
use Rattle.memory.specs.declared.Pointer.{Pointer}
use Rattle.memory.specs.Reading.{Outcome, given, refused, run, asked}
use Rattle.memory.specs.Address.{nothing, pointer, null, next_word}
use Rattle.memory.specs.declared.Refusal.{Refusal}
use Rattle.settings.specs.declared.Settings.{Settings}
use Rattle.blocks.specs.RowBlock.{RowBlock, row_block_at}
use Rattle.state.specs.declared.State.{State}
use Rattle.start.specs.Top.{registered}
use Rattle.start.specs.Start.{start_from}
use Rattle.row.specs.Row.{row}
use Rattle.frame.specs.Step.{begin}
use Rattle.frame.specs.Frame.{FrameRow, frame}
use Rattle.frame.specs.declared.Progress.{Progress}

-- the states that rows are called on, first to last: the first one, and each row's next
unfoldable pub called_on : State → List FrameRow → List State
called_on s [] = []
called_on s (r ∷ rs) = s ∷ called_on r.answer.next rs

abbrev pub states_from : Result Progress Refusal → List FrameRow → List State
states_from (Ok p) rs = called_on p.state rs
states_from (Err r) rs = []

-- .. those of a frame
unfoldable pub states : ℕ → Settings → List ℕ → List State
states latch σ m = states_from (begin latch σ m) (frame latch σ m).rows

-- ---- blocks and links ----

-- A link is told by the address of its first word. It stands first in its block, M0,M1 in the main block and a row's link in the row
-- block, so that this is the address of the block that holds it: the main block's, or that of a row's block.
abbrev pub main_of : Settings → ℕ
main_of σ = (registered σ.linear σ.top).address

abbrev pub block_of : State → ℕ
block_of s = s.fields.next.address

abbrev pub word_at : List ℕ → ℕ → ℕ
word_at m a = at m (a / 2)

-- what a link holds
abbrev pub pointer_in : Settings → ℕ → List ℕ → Pointer
pointer_in σ link m = pointer σ.linear link (word_at m link) (word_at m (next_word σ.linear link))

-- "the link is followed": a row is drawn from what it gives, a null one too. The first of the rows is led to from the block `holder`,
-- each next from the block of the row above.
unfoldable pub times_followed : (link holder : ℕ) → List State → ℕ
times_followed link holder [] = 0
times_followed link holder (s ∷ ss) = (when eqb holder link then 1 else 0) + times_followed link (block_of s) ss

-- the number of the first row drawn from what it gives; that of all rows, where it is not followed
unfoldable pub first_followed : (link holder : ℕ) → List State → ℕ
first_followed link holder [] = 0
first_followed link holder (s ∷ ss) = when eqb holder link then 0 else suc (first_followed link (block_of s) ss)

-- ---- words read ----

-- the addresses of the words of the block that a link gives
abbrev pub block_words : Settings → ℕ → List ℕ → List ℕ
block_words σ link m = asked m (row_block_at σ.linear (pointer_in σ link m))

-- is the word at an address none of these?
unfoldable pub apart : List ℕ → ℕ → Bool
apart [] a = true
apart (b ∷ bs) a = not (eqb (a / 2) (b / 2)) && apart bs a

unfoldable pub all_apart : List ℕ → List ℕ → Bool
all_apart bs [] = true
all_apart bs (a ∷ rest) = apart bs a && all_apart bs rest

-- How many words, of those that are read first, are read as the link or as the new block: the two of the link, in the block that holds it; in the
-- row drawn from what the link gives, the `size` words of its block.
abbrev pub own_words : (link size holder block : ℕ) → ℕ
own_words link size holder block = when eqb block link then 2 else when eqb holder link then size else 0

-- the addresses read by rows for anything else
unfoldable pub rows_else : Settings → List ℕ → (link size holder : ℕ) → List State → List ℕ
rows_else σ m link size holder [] = []
rows_else σ m link size holder (s ∷ ss) =
    drop (own_words link size holder (block_of s)) (asked m (row σ s)) ++ rows_else σ m link size (block_of s) ss

-- .. by a frame: its start reads the main block first
unfoldable pub read_else : ℕ → Settings → List ℕ → (link size : ℕ) → List ℕ
read_else latch σ m link size =
    drop (when eqb (main_of σ) link then 2 else 0) (asked m (start_from latch σ)) ++ rows_else σ m link size (main_of σ) (states latch σ m)

-- ---- redefinitions ----

-- the redefinition pointer of the row block that a state leads to
abbrev pub redefinition_of : Outcome RowBlock → Pointer
redefinition_of (given n b) = b.redefinition
redefinition_of (refused x) = nothing

unfoldable pub no_redefinition : Settings → List ℕ → List State → Bool
no_redefinition σ m [] = true
no_redefinition σ m (s ∷ ss) = null (redefinition_of (run m (row_block_at σ.linear s.fields.next))) && no_redefinition σ m ss
