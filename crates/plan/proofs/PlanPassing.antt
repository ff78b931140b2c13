-- The settings of an accepted plan have passed their checks: a refusal there is the plan's.
use mathlib.Core.Path.{◌≡◌, refl, ◌∙◌}
use mathlib.Core.List.{List}
use Prim.Native.Nat.{ℕ}
use native.Mathlib.Omega.{arith}
use Rattle.memory.specs.Reading.{Outcome, given, refused, run}
use Rattle.settings.specs.declared.Settings.{Settings}
use Rattle.settings.specs.Good.{check_settings}
use Rattle.settings.proofs.CheckLaws.{Passing, given-passing}
use Rattle.state.specs.declared.Fields.{Fields}
use Rattle.plan.specs.Plan.{Plan, plan}
use Rattle.plan.proofs.PlanLaws.{settings-refused}

pub plan-passing : (m : List ℕ) (σ : Settings) (f : Fields) {k : ℕ} {p : Plan} → given k p ≡ run m (plan σ f) → Passing σ
plan-passing m σ f {k} {p} e = by (run m (check_settings σ)) refl
  where
    by : (o : Outcome (Unit {0})) → run m (check_settings σ) ≡ o → Passing σ
    by (given i tt) h = given-passing σ 0 m h
    by (refused x) h = let r = e ∙ settings-refused m σ f h in let q : ◌≡◌ {A = ℕ} 0 1 = cc in absurd (omega arith)
