-- A row that was drawn has good settings.
use mathlib.Core.Path.{◌≡◌, refl, sym, ap, subst}
use mathlib.Core.Bool.{true}
use mathlib.Core.List.{List}
use Prim.Native.Nat.{ℕ}
use native.Mathlib.Omega.{arith}
use lib.ListN.{length}
use lib.Dec.{eqb}
use Rattle.memory.specs.Reading.{Outcome, given, refused, run}
use Rattle.memory.proofs.Laws.{bind-refused}
use Rattle.memory.proofs.ReadBounds.{if-cases}
use Rattle.settings.specs.declared.Settings.{Settings}
use Rattle.settings.specs.Good.{good}
use Rattle.state.specs.declared.State.{State}
use Rattle.plan.specs.Plan.{Plan, plan}
use Rattle.plan.proofs.PlanPassing.{plan-passing}
use Rattle.row.specs.declared.DrawnRow.{DrawnRow}
use Rattle.row.specs.Row.{Row, from_plan, row, Called, answered, row_call}
use Rattle.frame.specs.declared.Progress.{Progress}
use Rattle.frame.specs.declared.StepAnswer.{StepAnswer}
use Rattle.frame.specs.declared.StepAnswer.TheVariants.{Drawn, Ended, Refused}
use Rattle.frame.specs.Step.{row_step, Stepped, stepped, step}

module _ (σ : Settings) (m : List ℕ) where
  row-good : (s : State) {n : ℕ} {r : Row} → run m (row σ s) ≡ given n r → good σ ≡ true
  unfolding row
  row-good s {n} {r} e = by (run m (plan σ s.fields)) refl
    where
      by : (o : Outcome Plan) → run m (plan σ s.fields) ≡ o → good σ ≡ true
      by (given k p) h = (plan-passing m σ s.fields (sym h)).proper
      by (refused x) h =
          let f = bind-refused 0 m (plan σ s.fields) (from_plan σ s.fields.fill s.latch) h in
          let q : ◌≡◌ {A = ℕ} 0 1 = cc in
          absurd (omega arith)

  -- of a step that draws a row
  abbrev IfDrawn : StepAnswer → Type 0
  IfDrawn (Drawn r q) = good σ ≡ true
  IfDrawn (Ended rows words) = Unit {0}
  IfDrawn (Refused r) = Unit {0}

  by_row : (p : Progress) (b : List ℕ) (o : Outcome Row) → run m (row σ p.state) ≡ o
      → IfDrawn (row_step p (answered σ p.state.fields b o).answer)
  by_row p b (given n r) e = row-good p.state e
  by_row p b (refused x) e = tt

  if-drawn : (p : Progress) (b : List ℕ) → IfDrawn (step σ m p b).answer
  unfolding step row_call
  if-drawn p b =
      if-cases (λ (s : Stepped). IfDrawn s.answer) (eqb p.state.fields.left 0) (λ _. tt)
      λ _. if-cases (λ (c : Called). IfDrawn (row_step p c.answer)) (eqb (length b) 132) (λ _. by_row p b (run m (row σ p.state)) refl) (λ _. tt)

  pub drawn-good : (p : Progress) (b : List ℕ) {r : DrawnRow} {q : Progress} {cells : List ℕ} → stepped (Drawn r q) cells ≡ step σ m p b
      → good σ ≡ true
  drawn-good p b e = subst IfDrawn (ap (λ (s : Stepped). s.answer) (sym e)) (if-drawn p b)
