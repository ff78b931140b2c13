-- The laws by which a proof follows a step: what it gives, that a row leaves fewer lines, and that its buffer's cells do not matter.
use Rattle.std.proofs.Common.{Result}
use mathlib.Core.Path.{◌≡◌, refl, sym, ap, subst}
use mathlib.Core.Bool.{Bool, true, false}
use mathlib.Core.List.{List}
use Prim.Native.Nat.{ℕ, ◌+◌, ◌<◌, ◌≤◌}
use lib.ListN.{length}
use lib.Dec.{eqb}
use borrow.Author.Tests.{ne_eqb, eqb-true, eqb-false}
use Rattle.memory.specs.Word.{when◌then◌else◌}
use Rattle.memory.specs.Reading.{Outcome, given, refused, run}
use Rattle.memory.proofs.ReadBounds.{Words, if-cases}
use Rattle.memory.specs.declared.Refusal.{Refusal}
use Rattle.settings.specs.declared.Settings.{Settings}
use Rattle.row.specs.declared.DrawnRow.{DrawnRow}
use Rattle.row.specs.Row.{Row, row, Called, called, answered, row_call}
use Rattle.row.proofs.RowBound.{row-drawn}
use Rattle.frame.specs.declared.Progress.{Progress}
use Rattle.frame.specs.declared.StepAnswer.{StepAnswer}
use Rattle.frame.specs.declared.StepAnswer.TheVariants.{Drawn, Ended, Refused}
use Rattle.frame.specs.Step.{after, row_step, Stepped, stepped, step}
use Rattle.frame.specs.Frame.{Frame, by_answer, by_step}

-- the step is a row call, while a line is left
module _ (σ : Settings) (m : List ℕ) (p : Progress) (b : List ℕ) where
  pub no_line : p.state.fields.left ≡ 0 → step σ m p b ≡ stepped (Ended p.state.fields.row p.words) b
  unfolding step
  no_line e = rw e

  pub by_row : (p.state.fields.left ≡ 0 → ⊥) → {answer : Result DrawnRow Refusal} {cells : List ℕ} → called answer cells ≡ row_call σ m p.state b
      → stepped (row_step p answer) cells ≡ step σ m p b
  unfolding step
  by_row h e = rw (ne_eqb _ 0 h) (ap (λ (c : Called). stepped (row_step p c.answer) c.buffer) e)

-- a row r that takes the frame in progress p to q: "a row reads fewer than 12,000", "the lines run out"
pub record Advanced (p : Progress) (r : DrawnRow) (q : Progress) : Type 0 where
  pub next : q ≡ after p r
  pub few : r.words < 12000
  pub within : p.state.fields.row + p.state.fields.left ≤ 4095
  pub numbered : q.state.fields.row ≡ p.state.fields.row + 1
  pub fewer : q.state.fields.left < p.state.fields.left

-- what a step does with it: a row, its end, or a refusal, of a row that had a line
abbrev pub Advances : Progress → StepAnswer → Type 0
Advances p (Drawn r q) = Advanced p r q
Advances p (Ended rows words) = (p.state.fields.left ≡ 0) × (rows ≡ p.state.fields.row) × (words ≡ p.words)
Advances p (Refused r) = p.state.fields.left ≡ 0 → ⊥

module _ (σ : Settings) (m : List ℕ) (w : Words m) (p : Progress) where
  advances-by : (p.state.fields.left ≡ 0 → ⊥) → (b : List ℕ) (o : Outcome Row) → run m (row σ p.state) ≡ o
      → Advances p (row_step p (answered σ p.state.fields b o).answer)
  advances-by l b (given n r) e =
      let k = row-drawn σ m w p.state e in
      record { next = refl; few = k.0; within = k.1.within; numbered = k.1.numbered; fewer = k.1.fewer }
  advances-by l b (refused x) e = l

  row-advances : (p.state.fields.left ≡ 0 → ⊥) → (b : List ℕ) → Advances p (row_step p (row_call σ m p.state b).answer)
  unfolding row_call
  row-advances l b =
      if-cases (λ (c : Called). Advances p (row_step p c.answer)) (eqb (length b) 132)
      (λ _. advances-by l b (run m (row σ p.state)) refl) (λ _. l)

  -- a step with any row buffer
  pub advances : (b : List ℕ) → Advances p (step σ m p b).answer
  unfolding step
  advances b =
      if-cases (λ (s : Stepped). Advances p s.answer) (eqb p.state.fields.left 0) (λ h. (eqb-true _ 0 h, refl, refl))
      (λ h. row-advances (eqb-false _ 0 h) b)

  pub advanced : (b : List ℕ) {cells : List ℕ} {r : DrawnRow} {q : Progress} → stepped (Drawn r q) cells ≡ step σ m p b → Advanced p r q
  advanced b e = subst (Advances p) (ap (λ (s : Stepped). s.answer) (sym e)) (advances b)

-- two right buffers: a row's cells do not depend on what its buffer held
module _ (σ : Settings) (m : List ℕ) (rest : Progress → Frame) (p : Progress) where
  one-outcome : (a b : List ℕ) (o : Outcome Row)
      → by_answer rest p (row_step p (answered σ p.state.fields a o).answer) (answered σ p.state.fields a o).buffer
      ≡ by_answer rest p (row_step p (answered σ p.state.fields b o).answer) (answered σ p.state.fields b o).buffer
  one-outcome a b (given n r) = refl
  one-outcome a b (refused x) = refl

  sized : (b : List ℕ) → length b ≡ 132 → row_call σ m p.state b ≡ answered σ p.state.fields b (run m (row σ p.state))
  unfolding row_call
  sized b l = rw l

  by_lines : (t : Bool) (rows words : ℕ) (a b : List ℕ) (x y : Stepped) → by_step rest p x ≡ by_step rest p y
      → by_step rest p (when t then stepped (Ended rows words) a else x) ≡ by_step rest p (when t then stepped (Ended rows words) b else y)
  by_lines true rows words a b x y h = refl
  by_lines false rows words a b x y h = h

  pub any-buffer : (a b : List ℕ) → length a ≡ 132 → length b ≡ 132 → by_step rest p (step σ m p a) ≡ by_step rest p (step σ m p b)
  unfolding step
  any-buffer a b k l =
      by_lines (eqb p.state.fields.left 0) _ _ a b _ _ (rw (sized a k, sized b l) (one-outcome a b (run m (row σ p.state))))
