-- A frame of good linear settings is the frame below its checks on the settings.
use Rattle.std.proofs.Common.{Result, Ok, Err}
use mathlib.Core.Path.{◌≡◌, refl, ap, fun_ext, ◌∙◌}
use mathlib.Core.Bool.{true}
use mathlib.Core.List.{List}
use Prim.Native.Nat.{ℕ, zero, suc}
use Rattle.memory.specs.Reading.{◌>>=◌, run}
use Rattle.memory.specs.declared.Refusal.{Refusal}
use Rattle.settings.specs.declared.Settings.{Settings}
use Rattle.settings.specs.Good.{good, check_settings}
use Rattle.state.specs.declared.State.{State}
use Rattle.plan.specs.Plan.{plan}
use Rattle.start.specs.Start.{main_start, start_from, started}
use Rattle.row.specs.Row.{row, row_call}
use Rattle.frame.specs.declared.Progress.{Progress}
use Rattle.frame.specs.Step.{begun, begin, step}
use Rattle.frame.specs.Frame.{Frame, by_step, blank, within, rest, from_begin, frame}
use Rattle.converter.specs.Below.{row_below, step_below, within_below, from_begun, frame_below}

module _ (σ : Settings) (g : good σ ≡ true) (l : σ.linear ≡ true) where
  start-below : (latch : ℕ) → start_from latch σ ≡ main_start latch σ
  unfolding start_from check_settings ◌>>=◌
  start-below latch = rw (g, l)

  row_below_lem : (s : State) → row σ s ≡ row_below σ s
  unfolding row plan row_below check_settings ◌>>=◌
  row_below_lem s = rw (g, l)

  step-below : (m : List ℕ) (p : Progress) → step σ m p blank ≡ step_below σ m p
  unfolding step step_below row_call
  step-below m p = rw (row_below_lem p.state)

  within-below : (m : List ℕ) (n : ℕ) (p : Progress) → within n σ m p ≡ within_below n σ m p
  unfolding within within_below
  within-below m zero p = refl
  within-below m (suc n) p =
      ap (by_step (within n σ m) p) (step-below m p) ∙ ap (λ (rest : Progress → Frame). by_step rest p (step_below σ m p)) (fun_ext (within-below m n))

  begun-below : (m : List ℕ) (b : Result Progress Refusal) → from_begin σ m b ≡ from_begun σ m b
  unfolding rest
  begun-below m (Ok p) = within-below m p.state.fields.left p
  begun-below m (Err r) = refl

  pub frame_below_lem : (latch : ℕ) (m : List ℕ) → frame latch σ m ≡ frame_below latch σ m
  unfolding frame begin frame_below
  frame_below_lem latch m = begun-below m (begun (started (run m (start_from latch σ)))) ∙ rw (start-below latch)
