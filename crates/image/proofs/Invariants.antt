-- What every record keeps holds of the settings, the registers and the memory that a script draws from.
use mathlib.Core.Path.{◌≡◌, refl}
use mathlib.Core.Bool.{Bool, true, false}
use mathlib.Core.List.{List, [], ◌∷◌}
use Prim.Native.Nat.{ℕ, zero, suc, ◌+◌}
use lib.ListN.{length, take, drop, replicate}
use lib.Dec.{ltb, eqb}
use Rattle.memory.proofs.ReadBounds.{if-cases}
use Rattle.settings.specs.declared.Settings.{Settings}
use Rattle.script.specs.Records.{body_length, accepted, settings_after, memory_after}
use Rattle.script.specs.Script.{unset, number, records, script}
use Rattle.script.proofs.Invariants.{Draws}
use Rattle.image.specs.Registers.{registers_after, registers_by, registers_of}

pub either : {P : Type 0} (b : Bool) → (b ≡ true → P) → (b ≡ false → P) → P
either true t f = t refl
either false t f = f refl

module _ (P : Settings → (registers memory : List ℕ) → Type 0)
    (kept : (kind body : ℕ) (σ : Settings) (rs m : List ℕ) → P σ rs m → P (settings_after kind body σ) (registers_after kind body rs) (memory_after kind body m)) where
  abbrev Holds : List ℕ → Settings → List ℕ → Type 0
  Holds rs σ m = P σ rs m

  by-records : (size n at : ℕ) (σ : Settings) (rs m bytes : List ℕ) → P σ rs m → Draws (Holds (registers_by n rs bytes)) (records size n at σ m bytes)
  unfolding records registers_by
  by-records size zero at σ rs m bytes p = tt
  by-records size (suc n) at σ rs m [] p = tt
  by-records size (suc n) at σ rs m (kind ∷ bytes) p =
      let body : ℕ = number (take (body_length kind) bytes) in
      let rest = drop (body_length kind) bytes in
      let D = Draws (Holds (registers_by n (registers_after kind body rs) rest)) in
      either (eqb kind 0) (λ e. rw e p)
      (λ e. rw e (if-cases D (ltb 3 kind) (λ _. tt)
      (λ _. if-cases D (ltb (length bytes) (body_length kind)) (λ _. tt)
      (λ _. if-cases D (accepted kind body)
      (λ _. by-records size n (at + 1 + body_length kind) (settings_after kind body σ) (registers_after kind body rs) (memory_after kind body m) rest (kept kind body σ rs m p))
      (λ _. tt)))))

  pub image-draws : P unset (replicate 25 0) (replicate 16384 0) → (bytes : List ℕ) → Draws (Holds (registers_of bytes)) (script bytes)
  unfolding script registers_of
  image-draws p bytes = by-records (length bytes) (length bytes) 0 unset (replicate 25 0) (replicate 16384 0) bytes p
