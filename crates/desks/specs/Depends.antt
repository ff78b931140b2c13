-- What a frame depends on: the statement. Document 02: "Prove what the other relies on: a frame's rows, refusals and counts depend on its
-- settings, start latch and scroll state, the lengths of memory and buffers and the words that the frame read, and on nothing else. So a
-- write to words that a frame doesn't read, made between two of its rows, changes nothing in it."
use Rattle.std.specs.Prelude.{ℕ, zero, suc, ◌/◌, ◌≡◌, List, [], ◌∷◌, ◌++◌, length, get_or, set}
use Rattle.settings.specs.declared.Settings.{Settings}
use Rattle.frame.specs.Frame.{frame}
use Rattle.desks.specs.Finds.{Finds, Buffers, frame_lent, frame_over, lists, joined, reads_of, Cut, beside_after, beside_list}

-- an address, or a write, is in a list
infix 4 ◌∈◌
pub data ◌∈◌ {A : Type 0} : A → List A → Type 0 where
  here : {a : A} {l : List A} → a ∈ (a ∷ l)
  there : {a b : A} {l : List A} → a ∈ l → a ∈ (b ∷ l)

-- "the words that the frame read" are the same in two memories. "the word at byte address a is number a/2" (01)
abbrev pub SameAt : List ℕ → List ℕ → List ℕ → Type 0
SameAt reads m₁ m₂ = (a : ℕ) → a ∈ reads → get_or m₁ (a / 2) 0 ≡ get_or m₂ (a / 2) 0

-- ---- writes between the calls ----

pub record Write : Type 0 where
  pub address : ℕ
  pub word : ℕ

unfoldable pub written : List ℕ → List Write → List ℕ
written m [] = m
written m (w ∷ ws) = written (set m (w.address / 2) w.word) ws

-- the writes just before each call: number 0 before the start, number 1 between the start and row 0, number 2 between rows 0 and 1, and so on
abbrev pub Between : Type 0
Between = ℕ → List Write

-- memory as each call finds it
unfoldable pub found : List ℕ → Between → Finds
found m ws zero = written m (ws 0)
found m ws (suc n) = found (written m (ws 0)) (λ i. ws (suc i)) n

-- "words that a frame doesn't read", at no time in the frame: none of the writes is to one of these
abbrev pub Spare : Between → List ℕ → Type 0
Spare ws reads = (n : ℕ) (w : Write) → w ∈ ws n → (a : ℕ) → a ∈ reads → a / 2 ≡ w.address / 2 → ⊥

-- ---- the statement ----

-- Refused frames are frames too. A frame has its rows with their cells, its refusal, the count of words and its last state; `lists` has the
-- addresses of the words that each of its calls read, which an accepted call leaves in a list of 12,000 places.
pub record Depends : Type 0 where
  -- two memories of one length, and for each row two buffers of one length, whatever they hold
  pub reads : (latch : ℕ) (σ : Settings) (m₁ m₂ : List ℕ) (b₁ b₂ : Buffers) → length m₁ ≡ length m₂ → ((n : ℕ) → length (b₁ n) ≡ length (b₂ n))
      → SameAt (reads_of latch σ m₁) m₁ m₂
      → (frame_lent latch σ (λ _. m₁) b₁ ≡ frame_lent latch σ (λ _. m₂) b₂) × (◌≡◌ {A = List (List ℕ)} (lists latch σ λ _. m₁) (lists latch σ λ _. m₂))
  -- right buffers give the frame
  pub right : (latch : ℕ) (σ : Settings) (m : List ℕ) (b : Buffers) → ((n : ℕ) → length (b n) ≡ 132) → frame_lent latch σ (λ _. m) b ≡ frame latch σ m
  -- and of the row beside the cut, with its shift and soft top: what it reads too
  pub beside : (latch : ℕ) (σ : Settings) (c : Cut) (m₁ m₂ : List ℕ) → length m₁ ≡ length m₂
      → SameAt (reads_of latch σ m₁ ++ beside_list latch σ m₁ c (frame latch σ m₁)) m₁ m₂
      → (beside_after latch σ m₁ c (frame latch σ m₁) ≡ beside_after latch σ m₂ c (frame latch σ m₂))
      × (beside_list latch σ m₁ c (frame latch σ m₁) ≡ beside_list latch σ m₂ c (frame latch σ m₂))
  -- "a write to words that a frame doesn't read, made between two of its rows, changes nothing in it": any number of writes, between any
  -- two of its calls; it does not matter whether the words are read with the writes or without
  pub writes : (latch : ℕ) (σ : Settings) (m : List ℕ) (ws : Between) → Spare ws (reads_of latch σ m)
      → (frame_over latch σ (found m ws) ≡ frame latch σ m) × (lists latch σ (found m ws) ≡ lists latch σ λ _. m)
  pub writes_found : (latch : ℕ) (σ : Settings) (m : List ℕ) (ws : Between) → Spare ws (joined (lists latch σ (found m ws)))
      → (frame_over latch σ (found m ws) ≡ frame latch σ m) × (lists latch σ (found m ws) ≡ lists latch σ λ _. m)
  -- and before the row beside the cut, which is call number n
  pub writes_beside : (latch : ℕ) (σ : Settings) (c : Cut) (m : List ℕ) (ws : Between) (n : ℕ)
      → Spare ws (reads_of latch σ m ++ beside_list latch σ m c (frame latch σ m))
      → (beside_after latch σ (found m ws n) c (frame_over latch σ (found m ws)) ≡ beside_after latch σ m c (frame latch σ m))
      × (beside_list latch σ (found m ws n) c (frame_over latch σ (found m ws)) ≡ beside_list latch σ m c (frame latch σ m))
