-- Which rows to draw again: the statement. The user's complaint is a routine that redraws single rows by guessing. A console that keeps of
-- each row its state before, its cells and its list knows which rows a write cannot have changed.
use Rattle.std.specs.Prelude.{ℕ, ◌/◌, ◌≡◌, List, length, take, Ok}
use Rattle.settings.specs.declared.Settings.{Settings}
use Rattle.state.specs.declared.State.{State}
use Rattle.row.specs.declared.DrawnRow.{DrawnRow}
use Rattle.listed.specs.Listed.{row_listed}
use Rattle.writer.specs.declared.Span.{Span}
use Rattle.desks.specs.Depends.{◌∈◌, SameAt, Write, written}
use Rattle.two_desks.specs.DeskCalls.{Call, read_by, answer}

-- none of the writes is to a word at one of the addresses
abbrev pub Untouched : List Write → List ℕ → Type 0
Untouched ws addresses = (w : Write) → w ∈ ws → (a : ℕ) → a ∈ addresses → a / 2 ≡ w.address / 2 → ⊥

pub record Again : Type 0 where
  -- One call, refused or not, on two memories of one length that have the same words at the addresses that it reads: the same answer,
  -- cells and list, and the same addresses. Settings, state and the buffers' lengths are the call's, so the same in both.
  pub call : (own other : Span) (s : State) (c : Call) (m₁ m₂ : List ℕ) → length m₁ ≡ length m₂ → SameAt (read_by m₁ s c) m₁ m₂
      → (answer own other m₁ s c ≡ answer own other m₂ s c) × (read_by m₁ s c ≡ read_by m₂ s c)
  -- An accepted row leaves these addresses in its list, as many as its words: writes to none of them leave the row as it was. A refused
  -- row leaves no list, so nothing is said of it here: it is called again.
  pub row : (σ : Settings) (s : State) (buffer list m : List ℕ) (ws : List Write) (r : DrawnRow)
      → (row_listed σ m s buffer list).answer ≡ Ok r
      → Untouched ws (take r.words (row_listed σ m s buffer list).list)
      → row_listed σ (written m ws) s buffer list ≡ row_listed σ m s buffer list
