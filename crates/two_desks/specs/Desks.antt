-- Two desks on one memory: the statement. Document 02: "A supervisor's screen now shares display memory with the forecaster's, each with its
-- own settings and state. Either desk may write words. Prove what the other relies on".
use Rattle.std.specs.Prelude.{ℕ, ◌*◌, ◌/◌, ◌≡◌, Bool, true, false, List, [], ◌∷◌, ◌++◌, length}
use Rattle.memory.specs.Word.{when◌then◌else◌}
use Rattle.settings.specs.declared.Settings.{Settings}
use Rattle.state.specs.declared.State.{State}
use Rattle.writer.specs.declared.Span.{Span}
use Rattle.writer.specs.Writer.{inside, share, may_write}
use Rattle.frame.specs.Frame.{frame}
use Rattle.desks.specs.Finds.{frame_over, lists, reads_of, Cut, beside_after, beside_list}
use Rattle.desks.specs.Depends.{◌∈◌, Write, Between, found}
use Rattle.two_desks.specs.DeskCalls.{Call, Answer, read_by, answer, state_after, memory_after}

pub data Desk : Type 0 where
  forecaster : Desk
  supervisor : Desk

abbrev pub other : Desk → Desk
other forecaster = supervisor
other supervisor = forecaster

abbrev pub is : Desk → Desk → Bool
is forecaster forecaster = true
is forecaster supervisor = false
is supervisor forecaster = false
is supervisor supervisor = true

-- "takes both desks' spans": each desk's writer calls are made with its own span first
abbrev pub Spans : Type 0
Spans = Desk → Span

-- "each with its own settings and state"
abbrev pub States : Type 0
States = Desk → State

abbrev pub with_state : States → Desk → State → States
with_state states d s e = when is d e then s else states e

-- an action: a desk makes a call. A list of them has the calls of both desks, in whatever order they come
pub record Action : Type 0 where
  pub desk : Desk
  pub call : Call

-- what comes of it: what the desk gets, and the addresses of the words that the call read
pub record Outcome : Type 0 where
  pub desk : Desk
  pub answer : Answer
  pub reads : List ℕ

module _ (spans : Spans) where
  abbrev pub outcome : Desk → List ℕ → State → Call → Outcome
  outcome d m s c = record { desk = d; answer = answer (spans d) (spans (other d)) m s c; reads = read_by m s c }

  -- "Demand 2 reads memory as each call finds it": each call on the memory that the ones before it left, and on its desk's state
  unfoldable pub in_turn : List ℕ → States → List Action → List Outcome
  in_turn m states [] = []
  in_turn m states (a ∷ rest) =
      let d : Desk = a.desk in
      let o : Outcome = outcome d m (states d) a.call in
      o ∷ in_turn (memory_after (spans d) (spans (other d)) m a.call) (with_state states d (state_after (states d) o.answer)) rest

-- the actions of one desk, as if the other made none
unfoldable pub alone : Desk → List Action → List Action
alone d [] = []
alone d (a ∷ rest) = when is d a.desk then a ∷ alone d rest else alone d rest

-- what one desk gets
unfoldable pub gets : Desk → List Outcome → List Outcome
gets d [] = []
gets d (o ∷ rest) = when is d o.desk then o ∷ gets d rest else gets d rest

-- the addresses of all words that its calls read
unfoldable pub reads : List Outcome → List ℕ
reads [] = []
reads (o ∷ rest) = o.reads ++ reads rest

-- they are words of the desk's own span or of neither: none is of the span. "the word at byte address a is number a/2" (01), and it is in a
-- span where its own address, which is even, is
abbrev pub ClearOf : Span → List ℕ → Type 0
ClearOf span addresses = (a : ℕ) → a ∈ addresses → inside span (2 * (a / 2)) ≡ false

-- they are words of the desk's own span
abbrev pub Within : Span → List ℕ → Type 0
Within span addresses = (a : ℕ) → a ∈ addresses → inside span (2 * (a / 2)) ≡ true

-- writes that a desk's writer call accepts, where spans share no address
abbrev pub Accepted : Span → List ℕ → Between → Type 0
Accepted span m ws = (n : ℕ) (w : Write) → w ∈ ws n → may_write span w.address (length m) ≡ true

-- Each desk gets what it would get alone: answers with their refusals and counts, cells, lists, the addresses of the words read and, of its
-- writer calls, which are refused. So a desk that chooses its next call by the answers it got makes the same calls. Whether its calls are
-- clear of the other desk's span can be seen from what they read alone, or from what they read among the other's calls; an accepted
-- call's list has just that. Spans that share an address are no danger: then every write is refused 16.
pub record TwoDesks : Type 0 where
  pub from_alone : (spans : Spans) (m : List ℕ) (states : States) (actions : List Action) (d : Desk)
      → ClearOf (spans (other d)) (reads (in_turn spans m states (alone d actions)))
      → gets d (in_turn spans m states actions) ≡ in_turn spans m states (alone d actions)
  pub from_turns : (spans : Spans) (m : List ℕ) (states : States) (actions : List Action) (d : Desk)
      → ClearOf (spans (other d)) (reads (gets d (in_turn spans m states actions)))
      → gets d (in_turn spans m states actions) ≡ in_turn spans m states (alone d actions)
  -- so where spans share no address and every word that the desk's calls read lies in its own span
  pub in_own : (spans : Spans) (m : List ℕ) (states : States) (actions : List Action) (d : Desk) → share (spans d) (spans (other d)) ≡ false
      → Within (spans d) (reads (gets d (in_turn spans m states actions)))
      → gets d (in_turn spans m states actions) ≡ in_turn spans m states (alone d actions)
  -- and of a frame as it is defined, with its row beside the cut: writes that the other desk's writer call accepts, just before any of its calls
  pub frames : (spans : Spans) (d : Desk) (latch : ℕ) (σ : Settings) (m : List ℕ) (ws : Between) → Accepted (spans (other d)) m ws
      → ClearOf (spans (other d)) (reads_of latch σ m)
      → (frame_over latch σ (found m ws) ≡ frame latch σ m) × (lists latch σ (found m ws) ≡ lists latch σ λ _. m)
  pub besides : (spans : Spans) (d : Desk) (latch : ℕ) (σ : Settings) (c : Cut) (m : List ℕ) (ws : Between) (n : ℕ)
      → Accepted (spans (other d)) m ws
      → ClearOf (spans (other d)) (reads_of latch σ m ++ beside_list latch σ m c (frame latch σ m))
      → (beside_after latch σ (found m ws n) c (frame_over latch σ (found m ws)) ≡ beside_after latch σ m c (frame latch σ m))
      × (beside_list latch σ (found m ws n) c (frame_over latch σ (found m ws)) ≡ beside_list latch σ m c (frame latch σ m))
