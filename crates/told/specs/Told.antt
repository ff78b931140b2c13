-- Document 02, "Say who pointed there": what a refusal 7 tells is true. "Every read of memory should carry the address where the pointer
-- in use begins, 0 when a register held it."
use Rattle.std.specs.Prelude.{ℕ, ◌<◌, ◌≡◌, Bool, false, List, Some, None}
use Rattle.std.proofs.Math.Option.{some}
use Rattle.memory.specs.declared.Pointer.{Pointer}
use Rattle.memory.specs.declared.Refusal.{Refusal}
use Rattle.memory.specs.Reading.{fetch}
use Rattle.memory.specs.Address.{pointer, null, next_word, ahead}
use Rattle.settings.specs.declared.Settings.{Settings}
use Rattle.start.specs.Top.{registered}
use Rattle.frame.specs.Frame.{frame}

-- what holds a pointer: TOP or TOW; or the memory, which has its first word at the address where it begins and its second word next, and
-- the two give the pointer
pub data Held (σ : Settings) (m : List ℕ) : Pointer → Type 0 where
  by_top : Held σ m (registered σ.linear σ.top)
  by_tow : Held σ m (registered σ.linear σ.tow)
  by_memory : {p : Pointer} (first second : ℕ) → fetch m p.from ≡ Some first → fetch m (next_word σ.linear p.from) ≡ Some second
      → p ≡ pointer σ.linear p.from first second → Held σ m p

-- steps alone lead from an address to another: some words further, and each word before it is in memory
pub record Leads (linear : Bool) (m : List ℕ) (a b : ℕ) : Type 0 where
  pub steps : ℕ
  pub there : ahead linear steps a ≡ b
  pub before : (j : ℕ) → j < steps → (w : ℕ) × (fetch m (ahead linear j a) ≡ Some w)

-- an address, and where the pointer in use begins: a pointer that is held begins there and leads to the address
pub record Reached (σ : Settings) (m : List ℕ) (p : Pointer) : Type 0 where
  pub in_use : Pointer
  pub not_null : null in_use ≡ false
  pub held : Held σ m in_use
  pub begins : in_use.from ≡ p.from
  pub leads : Leads σ.linear m in_use.address p.address

-- a true refusal 7: its address is the first one, from where its pointer points, whose word is missing
pub record TrueRefusal (σ : Settings) (m : List ℕ) (r : Refusal) : Type 0 where
  pub reached : Reached σ m (record { address = r.address; from = r.from })
  pub missing : fetch m r.address ≡ None

-- of every refusal 7 of a frame
abbrev pub ToldTrue : ℕ → Settings → List ℕ → Type 0
ToldTrue latch σ m = (r : Refusal) → (frame latch σ m).refusal ≡ some r → r.number ≡ 7 → TrueRefusal σ m r

-- so where the address told is not 0, no register held the pointer: its two words stand there
pub record ByWords (σ : Settings) (m : List ℕ) (r : Refusal) : Type 0 where
  pub first : ℕ
  pub second : ℕ
  pub first_there : fetch m r.from ≡ Some first
  pub second_there : fetch m (next_word σ.linear r.from) ≡ Some second
  pub leads : Leads σ.linear m (pointer σ.linear r.from first second).address r.address
