-- What every record keeps holds of the settings and the memory that a script draws from.
use Rattle.std.proofs.Common.{ℕ, zero, suc, ◌+◌, eqb, ltb, List, [], ◌∷◌, length, take, drop, replicate}
use Rattle.memory.proofs.ReadBounds.{if-cases}
use Rattle.settings.specs.declared.Settings.{Settings}
use Rattle.script.specs.Records.{body_length, accepted, settings_after, memory_after}
use Rattle.script.specs.Script.{Outcome, drawn, refused_at, unset, number, records, script}

-- P holds of what a script comes to, if it draws
abbrev pub Draws : (Settings → List ℕ → Type 0) → Outcome → Type 0
Draws P (drawn σ m) = P σ m
Draws P (refused_at n) = Unit

module _ (P : Settings → List ℕ → Type 0)
    (kept : (kind body : ℕ) (σ : Settings) (m : List ℕ) → P σ m → P (settings_after kind body σ) (memory_after kind body m)) where
  by-records : (size n at : ℕ) (σ : Settings) (m bytes : List ℕ) → P σ m → Draws P (records size n at σ m bytes)
  unfolding records
  by-records size zero at σ m bytes p = tt
  by-records size (suc n) at σ m [] p = tt
  by-records size (suc n) at σ m (kind ∷ bytes) p =
      let body : ℕ = number (take (body_length kind) bytes) in
      if-cases (Draws P) (eqb kind 0) (λ _. p)
      (λ _. if-cases (Draws P) (ltb 3 kind) (λ _. tt)
      (λ _. if-cases (Draws P) (ltb (length bytes) (body_length kind)) (λ _. tt)
      (λ _. if-cases (Draws P) (accepted kind body)
      (λ _. by-records size n (at + 1 + body_length kind) (settings_after kind body σ) (memory_after kind body m) (drop (body_length kind) bytes) (kept kind body σ m p))
      (λ _. tt))))

  pub script-draws : P unset (replicate 16384 0) → (bytes : List ℕ) → Draws P (script bytes)
  unfolding script
  script-draws p bytes = by-records (length bytes) (length bytes) 0 unset (replicate 16384 0) bytes p
