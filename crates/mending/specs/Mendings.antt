-- Document 02, "Mending damaged lists": what holds of every mended list.
use Rattle.std.specs.Prelude.{ℕ, ◌/◌, ◌<◌, ◌≡◌, Bool, true, ◌⊎◌, List, [], ◌∷◌, length, get_or}
use Rattle.std.proofs.Math.Option.{none, some}
use Rattle.memory.specs.declared.Fault.{Fault}
use Rattle.memory.specs.declared.Refusal.{Refusal}
use Rattle.memory.specs.Reading.{refused, refusal, run}
use Rattle.memory.specs.Address.{next_word}
use Rattle.settings.specs.declared.Settings.{Settings}
use Rattle.frame.specs.Frame.{frame}
use Rattle.blame.specs.declared.Place.{Place}
use Rattle.blame.specs.declared.Place.TheVariants.{Register, Memory}
use Rattle.blame.specs.declared.Verdict.TheVariants.{Blamed}
use Rattle.blame.specs.Blame.{first_word, second_word, as_it_is, main_of, verdict}
use Rattle.mending.specs.declared.Change.{Change}
use Rattle.mending.specs.Mending.{settings_after, memory_after, place_address, change_of, mend_step, Mended, unchanged, with_change, by_step, count, mended}

-- "2, 6, 14, 17 and 7 on a main block .. are given as they are": the frame has the refusal of its start up to the main block
pub record GivenAsItIs (latch : ℕ) (σ : Settings) (m : List ℕ) : Type 0 where
  pub fault : Fault
  pub main : run m (main_of σ) ≡ refused fault
  pub number : as_it_is fault.number ≡ true
  pub refuses : (frame latch σ m).refusal ≡ some (refusal 0 fault)

-- the pointer at a place is cut for a refusal
pub record Cut (latch : ℕ) (σ : Settings) (m : List ℕ) (p : Place) (r : Refusal) : Type 0 where
  -- the frame has the refusal
  pub refuses : (frame latch σ m).refusal ≡ some r
  -- the pointer is the one to blame for it (`Blame.verdict`)
  pub blames : verdict latch σ m ≡ Blamed p r.number
  -- "for 7 the pointer in use": where the refusal tells that it begins, 0 for a register
  pub told : r.number ≡ 7 → place_address p ≡ r.from
  -- its words are not both 0
  pub holds : first_word p σ m ≡ 0 → second_word p σ m ≡ 0 → ⊥
  -- "Each change leaves fewer nonzero words, registers counted"
  pub fewer : count (settings_after p σ) (memory_after p σ.linear m) < count σ m

-- how a mended list comes about
pub data Chain (latch : ℕ) : Settings → List ℕ → Mended → Type 0 where
  -- it draws to its end
  draws : {σ : Settings} {m : List ℕ} → (frame latch σ m).refusal ≡ none → Chain latch σ m (unchanged σ m)
  -- it is refused as it is
  refuses : {σ : Settings} {m : List ℕ} → GivenAsItIs latch σ m → Chain latch σ m (unchanged σ m)
  -- "at each refusal sets one pointer's words to 0 and starts again from the same latch": the number is told
  changes : {σ : Settings} {m : List ℕ} {p : Place} {r : Refusal} {d : Mended} → Cut latch σ m p r
      → Chain latch (settings_after p σ) (memory_after p σ.linear m) d → Chain latch σ m (with_change (change_of p r.number σ m) d)

-- word i is of no pointer of some changes
abbrev pub Apart : Bool → ℕ → Place → Type 0
Apart linear i Register = Unit
Apart linear i (Memory a) = (i ≡ a / 2 → ⊥) × (i ≡ next_word linear a / 2 → ⊥)

abbrev pub Untouched : Bool → ℕ → List Change → Type 0
Untouched linear i [] = Unit
Untouched linear i (c ∷ cs) = Apart linear i c.place × Untouched linear i cs

-- a list and its mending d, from a latch
pub record Mends (latch : ℕ) (σ : Settings) (m : List ℕ) (d : Mended) : Type 0 where
  -- change by change, each of the pointer to blame
  pub chain : Chain latch σ m d
  -- a caller who makes one step, then mends what it leaves, gets the same
  pub step : d ≡ by_step (mended latch) σ (mend_step latch σ m)
  -- "the mended list draws to its end unless refused as below". What is "met at any start" is met at the first one: such a list is unchanged
  pub draws : ((frame latch d.settings d.memory).refusal ≡ none) ⊎ ((d ≡ unchanged σ m) × GivenAsItIs latch σ m)
  -- "A good list is unchanged."
  pub good : (frame latch σ m).refusal ≡ none → d ≡ unchanged σ m
  -- words that no pointer of a change holds stay
  pub stays : (i : ℕ) → Untouched σ.linear i d.changes → get_or d.memory i 0 ≡ get_or m i 0
  pub size : length d.memory ≡ length m

-- of a memory and registers of 16-bit words
abbrev pub Sixteen : Settings → List ℕ → Type 0
Sixteen σ m = ((i : ℕ) → get_or m i 0 < 65536) × (σ.top.second < 65536) × (σ.tow.second < 65536)

abbrev pub AllMend : Type 0
AllMend = (latch : ℕ) (σ : Settings) (m : List ℕ) → Sixteen σ m → Mends latch σ m (mended latch σ m)
