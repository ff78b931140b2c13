-- What is read of a script, told of a reader's bytes where these are known: those that it gave. A read that fails gives none.
use Rattle.std.specs.Prelude.{ℕ, ◌^◌, ◌<◌, ◌≡◌, List, length, slice_index, replicate}
use Rattle.std.specs.declared.option.Option.{Option}
use Rattle.std.specs.Io.KnownBytes.{Consumes, Appends}
use Rattle.script.specs.declared.Script.{Script}
use Rattle.script.specs.declared.Step.{Step}
use Rattle.script.specs.declared.Step.TheVariants.{More, Refused}
use Rattle.script.specs.Feeding.{at_end}
use Rattle.image.specs.Feeding.{fed, feeding}

-- as `Input`, of these bytes
pub data Leads (bytes : List ℕ) (s : Script) (rs m : List ℕ) : Step → (registers memory : List ℕ) → Type 0 where
  on : {r : Step} {registers memory : List ℕ} → fed r registers memory ≡ feeding bytes s rs m → Leads bytes s rs m r registers memory
  out : {t : Script} {registers memory : List ℕ} → fed (More t) registers memory ≡ feeding bytes s rs m
      → Leads bytes s rs m (Refused (at_end t)) registers memory

-- a reader that had these bytes before it and has those after it gave the bytes between
pub record Taken (before after : Option (List ℕ)) (s : Script) (rs m : List ℕ) (r : Step) (registers memory : List ℕ) : Type 0 where
  pub bytes : List ℕ
  pub given : Consumes before after bytes
  pub small : (i : ℕ) → slice_index bytes i < 256
  pub leads : Leads bytes s rs m r registers memory

-- for settings and memory alone, as `Drawing`
pub record Drawn (before after : Option (List ℕ)) (s : Script) (m : List ℕ) (r : Step) (memory : List ℕ) : Type 0 where
  pub registers : List ℕ
  pub taken : Taken before after s (replicate 25 0) m r registers memory

-- a program that reads a script and prints the text of its bytes
pub record Prints (output : List ℕ → List ℕ) (before after held holds : Option (List ℕ)) : Type 0 where
  pub bytes : List ℕ
  pub given : Consumes before after bytes
  pub printed : length bytes < 2 ^ 64 → Appends held holds (output bytes)
