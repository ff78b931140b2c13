-- The call: one law for each way through its definition.
use Rattle.std.proofs.Common.{Ok}
use mathlib.Core.Path.{◌≡◌}
use mathlib.Core.Bool.{true, false}
use mathlib.Core.List.{List}
use Prim.Native.Nat.{ℕ, ◌+◌}
use lib.ListN.{length}
use borrow.Author.Tests.{eq-eqb, ne_eqb}
use Rattle.memory.specs.declared.Refusal.{Refusal}
use Rattle.memory.specs.Reading.{fault, refusal}
use Rattle.settings.specs.declared.Settings.{Settings}
use Rattle.settings.specs.Good.{good}
use Rattle.converter.specs.Converter.{ended, stopped, follow, turned_memory, turned_settings, changes, register_changes, kept, convert_by, convert_call}
use Rattle.conversion.specs.Answers.{called}

module _ (latch : ℕ) (σ : Settings) (m : List ℕ) (marks : ℕ) where
  pub other-number : (marks ≡ length m → ⊥) → kept m (refusal 0 (fault 22)) ≡ convert_call latch σ m marks
  unfolding convert_call
  other-number h = rw (ne_eqb marks (length m) h)

  pub not_good : marks ≡ length m → good σ ≡ false → kept m (refusal 0 (fault 2)) ≡ convert_call latch σ m marks
  unfolding convert_call
  not_good h g = rw (eq-eqb marks (length m) h, g)

  pub is-linear : marks ≡ length m → good σ ≡ true → σ.linear ≡ true → kept m (refusal 0 (fault 26)) ≡ convert_call latch σ m marks
  unfolding convert_call
  is-linear h g l = rw (eq-eqb marks (length m) h, g, l)

  pub was-stopped : {r : Refusal} → marks ≡ length m → good σ ≡ true → σ.linear ≡ false → stopped r ≡ follow latch σ m → kept m r ≡ convert_call latch σ m marks
  unfolding convert_call convert_by
  was-stopped h g l e = rw (eq-eqb marks (length m) h, g, ← e, l)

  pub was-ended : {ks : List ℕ} → marks ≡ length m → good σ ≡ true → σ.linear ≡ false → ended ks ≡ follow latch σ m
      → called (Ok (record { settings = turned_settings σ; pointers = changes m (turned_memory ks m) + register_changes σ })) (turned_memory ks m)
      ≡ convert_call latch σ m marks
  unfolding convert_call convert_by
  was-ended h g l e = rw (eq-eqb marks (length m) h, g, ← e, l)
