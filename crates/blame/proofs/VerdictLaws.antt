-- The laws by which a proof follows a verdict: its main block, its start, its rows.
use Rattle.std.proofs.Common.{Ok, Err}
use mathlib.Core.Path.{◌≡◌, ap}
use mathlib.Core.List.{List}
use Prim.Native.Nat.{ℕ}
use native.Mathlib.Omega.{arith}
use Rattle.memory.specs.declared.Fault.{Fault}
use Rattle.memory.specs.declared.Refusal.{Refusal}
use Rattle.memory.specs.Reading.{Outcome, given, refused, refusal, run}
use Rattle.memory.proofs.Laws.{bind-given, bind-refused}
use Rattle.settings.specs.declared.Settings.{Settings}
use Rattle.settings.specs.Good.{check_settings}
use Rattle.blocks.specs.declared.MainBlock.{MainBlock}
use Rattle.state.specs.declared.State.{State}
use Rattle.start.specs.declared.Started.{Started}
use Rattle.start.specs.Top.{top_block}
use Rattle.start.specs.Start.{start_from, started, start_call}
use Rattle.blame.specs.declared.Place.TheVariants.{Register}
use Rattle.blame.specs.declared.Verdict.TheVariants.{Blamed, Refused}
use Rattle.blame.specs.Blame.{rows, main_of, by_start, verdict}

module _ (σ : Settings) (m : List ℕ) where
  pub settings-bad : {x : Fault} → run m (check_settings σ) ≡ refused x → run m (main_of σ) ≡ refused x
  unfolding main_of
  settings-bad e = bind-refused 0 m (check_settings σ) _ e

  pub settings-good : run m (check_settings σ) ≡ given 0 tt → run m (main_of σ) ≡ run m (top_block σ.linear σ.top)
  unfolding main_of
  settings-good e = bind-given 0 m (check_settings σ) _ e

module _ (latch : ℕ) (σ : Settings) (m : List ℕ) where
  pub main-refused : {x : Fault} → run m (main_of σ) ≡ refused x → verdict latch σ m ≡ Refused (refusal 0 x)
  unfolding verdict
  main-refused e = rw e

  module _ {n : ℕ} {b : MainBlock} (e : run m (main_of σ) ≡ given n b) where
    pub start-refused : {r : Refusal} → Err r ≡ start_call latch σ m → verdict latch σ m ≡ Blamed Register r.number
    unfolding verdict start_call
    start-refused {r} h = rw e (by (run m (start_from latch σ)) h)
      where
        by : (o : Outcome State) → Err r ≡ started o → by_start σ m (given n b) o ≡ Blamed Register r.number
        by (given k s) h = let q : ◌≡◌ {A = ℕ} 0 1 = cc in absurd (omega arith)
        by (refused x) h = let same : refusal 0 x ≡ r = cc in ap (λ (r : Refusal). Blamed Register r.number) same

    pub start-given : {a : Started} → Ok a ≡ start_call latch σ m → verdict latch σ m ≡ rows σ m Register a.state
    unfolding verdict start_call
    start-given {a} h = rw e (by (run m (start_from latch σ)) h)
      where
        by : (o : Outcome State) → Ok a ≡ started o → by_start σ m (given n b) o ≡ rows σ m Register a.state
        by (given k s) h =
            let same : record { words = k; state = s } ≡ a = cc in
            ap (λ (a : Started). rows σ m Register a.state) same
        by (refused x) h = let q : ◌≡◌ {A = ℕ} 0 1 = cc in absurd (omega arith)
