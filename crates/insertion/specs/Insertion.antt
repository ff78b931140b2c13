-- Document 02, "Inserting a line, for certain": what is asked of the two frames, and what then moves. The words in quotes are the request's.
-- It asks also for "the fill flag clear, soft scroll off": the claim holds without these two.
use Rattle.std.specs.Prelude.{ℕ, ◌+◌, ◌<◌, ◌≤◌, ◌≡◌, true, false, List, [], ◌∷◌, map, length, get_or, take, eqb, Result, Ok, Err}
use Rattle.std.proofs.Math.Option.{Option, none, some}
use Rattle.std.proofs.Math.ListN.{get_elem?}
use Rattle.memory.specs.declared.Pointer.{Pointer}
use Rattle.memory.specs.Address.{null, next_word}
use Rattle.memory.specs.declared.Refusal.{Refusal}
use Rattle.settings.specs.declared.Settings.{Settings}
use Rattle.state.specs.declared.Fields.{Fields}
use Rattle.state.specs.declared.State.{State}
use Rattle.state.specs.State.{state_of}
use Rattle.start.specs.Top.{registered}
use Rattle.row.specs.Row.{Called, row_call}
use Rattle.frame.specs.Frame.{FrameRow, blank, frame}
use Rattle.joining.specs.declared.Effect.{Effect}
use Rattle.joining.specs.Join.{empty, join, apply}
use Rattle.row.specs.declared.DrawnRow.{DrawnRow}
use Rattle.effect.specs.Effect.{effect_call}
use Rattle.insertion.specs.Followed.{states, main_of, word_at, pointer_in, times_followed, first_followed, block_words, apart, all_apart, read_else, no_redefinition}

-- the words that may differ: "the link changed", and "The new block's words", of the block that it gives in the new memory
abbrev pub changed : Settings → ℕ → List ℕ → List ℕ
changed σ link new = link ∷ next_word σ.linear link ∷ block_words σ link new

-- What is asked of each frame, on its memory m: `size` words are the new block's.
pub record FrameFits (latch : ℕ) (σ : Settings) (link : ℕ) (changes : List ℕ) (size : ℕ) (m : List ℕ) : Type 0 where
  -- document 01: "Memory is a lent slice of 16-bit words"
  pub words : (i : ℕ) → get_or m i 0 < 65536
  -- "without .. redefinitions"
  pub plain : no_redefinition σ m (states latch σ m) ≡ true
  -- "The new block's words and the link changed are read for nothing else"
  pub apart : all_apart changes (read_else latch σ m link size) ≡ true
  -- "the link is followed at most once"
  pub once : times_followed link (main_of σ) (states latch σ m) ≤ 1
  -- "neither frame is refused"
  pub accepted : (frame latch σ m).refusal ≡ none

-- A link, M0,M1 or a row block's, and the memories before and after; "both frames started from the same latch".
pub record Insertion (latch : ℕ) (σ : Settings) (link : ℕ) (old new : List ℕ) : Type 0 where
  -- "a list without windows"
  pub no_window : null (registered σ.linear σ.tow) ≡ true
  -- "the absolute cursor disabled"
  pub no_cursor : σ.cursor ≡ false
  -- no block, and so no link, is at the address 0; the link is changed to one that is not null
  pub held : eqb link 0 ≡ false
  pub points : null (pointer_in σ link new) ≡ false
  -- "The new block takes over the old link": its first two words point where the old link did, whatever bits a pointer ignores
  pub taken : (pointer_in σ (pointer_in σ link new).address new).address ≡ (pointer_in σ link old).address
  -- "and no other words differ"
  pub size : length old ≡ length new
  pub same : (a : ℕ) → apart (changed σ link new) a ≡ true → word_at old a ≡ word_at new a
  -- "in either frame", "in each": the old one reads no word of the new block
  pub before : FrameFits latch σ link (changed σ link new) 0 old
  pub after : FrameFits latch σ link (changed σ link new) (length (block_words σ link new)) new

-- ---- what then moves ----

-- the same fields with another next row block
abbrev pub with_next : Pointer → Fields → Fields
with_next p f = record { row = f.row; left = f.left; cursor = f.cursor; fill = f.fill; format = f.format; next = p; window = f.window }

-- the effects of the rows called on some states, joined first to last
unfoldable pub joined_effects : Settings → List ℕ → List State → Effect
joined_effects σ m [] = empty
joined_effects σ m (s ∷ ss) = join (effect_call σ m s.fields).effect (joined_effects σ m ss)

-- the cells of a row call that is accepted
abbrev pub cells_given : Result DrawnRow Refusal → List ℕ → Option (List ℕ)
cells_given (Ok d) cells = some cells
cells_given (Err r) cells = none

abbrev pub cells_called : Called → Option (List ℕ)
cells_called c = cells_given c.answer c.buffer

-- .. on some fields, "drawn from the latch that the joined effects give"
abbrev pub drawn_from : Settings → List ℕ → Fields → Result ℕ Refusal → Option (List ℕ)
drawn_from σ m f (Ok l) = cells_called (row_call σ m (state_of l f) blank)
drawn_from σ m f (Err r) = none

abbrev pub cells_of : List FrameRow → List (List ℕ)
cells_of rs = map (λ (r : FrameRow). r.cells) rs

abbrev pub lines_of : List FrameRow → List ℕ
lines_of rs = map (λ (r : FrameRow). r.answer.lines) rs

-- The place is that of the first row drawn from what the link gives.
abbrev pub place_of : ℕ → Settings → ℕ → List ℕ → ℕ
place_of latch σ link old = first_followed link (main_of σ) (states latch σ old)

pub record Inserted (latch : ℕ) (σ : Settings) (link : ℕ) (old new : List ℕ) : Type 0 where
  -- "Rows that the screen has no lines for fall off": both frames have as many rows, of the same lines. "a row cut short by the last
  -- lines keeps its cells": what follows is said of the 132 cells of each row, whatever its lines.
  pub lines : lines_of (frame latch σ new).rows ≡ lines_of (frame latch σ old).rows
  -- "the rows above keep their cells"; all rows, where the link is not followed
  pub above : let place = place_of latch σ link old in take place (cells_of (frame latch σ new).rows) ≡ take place (cells_of (frame latch σ old).rows)
  -- "the new row stands in its place": it is the new block's, from the latch that the rows above leave
  pub placed : let place = place_of latch σ link old in
      (s : State) (r : FrameRow) → get_elem? (states latch σ old) place ≡ some s → get_elem? (frame latch σ new).rows place ≡ some r
      → some r.cells ≡ drawn_from σ new (with_next (pointer_in σ link new) s.fields) (Ok s.latch)
  -- "each row below has the cells of the former row one higher, drawn from the latch that the joined effects give"
  pub below : let place = place_of latch σ link old in
      (j : ℕ) (s : State) (r : FrameRow) → place ≤ j → get_elem? (states latch σ old) j ≡ some s → get_elem? (frame latch σ new).rows (j + 1) ≡ some r
      → some r.cells ≡ drawn_from σ old s.fields (apply (joined_effects σ new (take (j + 1) (states latch σ new))) latch)
  -- "If the new row's effect keeps the latch in both parts, they are the same cells."
  pub kept : let place = place_of latch σ link old in
      ((s : State) → get_elem? (states latch σ new) place ≡ some s → (effect_call σ new s.fields).effect ≡ empty)
      → (j : ℕ) (q r : FrameRow) → place ≤ j → get_elem? (frame latch σ old).rows j ≡ some q → get_elem? (frame latch σ new).rows (j + 1) ≡ some r
      → r.cells ≡ q.cells

-- the claim
abbrev pub InsertsALine : Type 0
InsertsALine = (latch : ℕ) (σ : Settings) (link : ℕ) (old new : List ℕ) → Insertion latch σ link old new → Inserted latch σ link old new
