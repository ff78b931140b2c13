-- What `check_settings` says, of the checks that it made.
use Rattle.std.proofs.Common.{Result, Ok, Err}
use mathlib.Core.Path.{◌≡◌, refl, ap, sym, ◌∙◌}
use mathlib.Core.List.{List}
use Prim.Native.Nat.{ℕ}
use mathlib.Core.Bool.{Bool, true, false}
use native.Mathlib.Omega.{arith}
use lib.Dec.{lit≤}
use Rattle.memory.specs.declared.Fault.{Fault}
use Rattle.memory.specs.Reading.{done, ◌>>=◌, check, given, refused, run_from}
use Rattle.memory.proofs.ReadBounds.{Reads, implies, bind, check-reads}
use Rattle.settings.specs.declared.Settings.{Settings}
use Rattle.settings.specs.Good.{good, check_settings}
use Rattle.settings.specs.Answers.{settings_checked}

-- settings that pass are good and linear
pub record Passing (σ : Settings) : Type 0 where
  pub proper : good σ ≡ true
  pub straight : σ.linear ≡ true

pub passing-done : (σ : Settings) → Passing σ → check_settings σ ≡ done tt
unfolding check_settings ◌>>=◌
passing-done σ h = rw (h.proper, h.straight)

-- no word is read
pub settings-read : (σ : Settings) → Reads (λ _. Passing σ) 0 (check_settings σ)
unfolding check_settings
settings-read σ =
    bind {h = λ _. check 17 σ.linear} {n = 0} {k = 0} (lit≤ tt) (check-reads 2 (good σ)) λ _ g.
    implies (λ _ l. record { proper = g; straight = l }) (check-reads 17 σ.linear)

pub given-passing : (σ : Settings) (n : ℕ) (m : List ℕ) {k : ℕ} → run_from n m (check_settings σ) ≡ given k tt → Passing σ
unfolding check_settings run_from ◌>>=◌
given-passing σ n m e = by (good σ) σ.linear refl refl
  where
    by : (g l : Bool) → good σ ≡ g → σ.linear ≡ l → Passing σ
    by true true g l = record { proper = g; straight = l }
    by true false g l = let q : ◌≡◌ {A = ℕ} 0 1 = cc in absurd (omega arith)
    by false l g _ = let q : ◌≡◌ {A = ℕ} 0 1 = cc in absurd (omega arith)

module _ (σ : Settings) (r : Result (Unit {0}) Fault) (e : (n : ℕ) (m : List ℕ) → settings_checked n r ≡ run_from n m (check_settings σ)) (n : ℕ)
    (m : List ℕ) where
  pub settings-refuse : {x : Fault} → r ≡ Err x → run_from n m (check_settings σ) ≡ refused x
  settings-refuse h = sym (e n m) ∙ ap (settings_checked n) h

  pub settings-pass : r ≡ (Ok tt) → run_from n m (check_settings σ) ≡ given n tt
  settings-pass h = sym (e n m) ∙ ap (settings_checked n) h
