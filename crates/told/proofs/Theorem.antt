-- What a refusal 7 of a frame tells is true: the start's pointers stand, each row keeps them so, and the word that is not there was asked
-- for through one of these.
use Rattle.std.proofs.Common.{None}
use mathlib.Core.Path.{◌≡◌, ap, sym, subst, ◌∙◌}
use mathlib.Core.List.{List}
use mathlib.Core.Option.{Option, none, some}
use Prim.Native.Nat.{ℕ, zero, suc}
use native.Mathlib.Omega.{arith}
use lib.ListN.{length}
use lib.Dec.{eqb}
use borrow.Author.Tests.{eq-eqb}
use Rattle.memory.specs.declared.Fault.{Fault}
use Rattle.memory.specs.declared.Pointer.{Pointer}
use Rattle.memory.specs.declared.Refusal.{Refusal}
use Rattle.memory.specs.Reading.{fetch, Outcome, refusal}
use Rattle.memory.specs.Address.{pointer, next_word}
use Rattle.memory.proofs.ReadBounds.{if-cases}
use Rattle.settings.specs.declared.Settings.{Settings}
use Rattle.state.specs.declared.State.{State}
use Rattle.start.specs.Start.{started}
use Rattle.row.specs.Row.{Row, Called, answered, row_call}
use Rattle.frame.specs.declared.Progress.{Progress}
use Rattle.frame.specs.declared.StepAnswer.{StepAnswer}
use Rattle.frame.specs.declared.StepAnswer.TheVariants.{Drawn, Ended, Refused}
use Rattle.frame.specs.Step.{begun, begin, row_step, Stepped, step}
use Rattle.frame.specs.Frame.{Frame, by_answer, blank, within, rest, from_begin, frame}
use Rattle.told.specs.Told.{Held, by_top, by_tow, by_memory, Leads, Reached, TrueRefusal, ByWords, ToldTrue}
use Rattle.told.proofs.Tells.{Ends, gives, tells, run_ends}
use Rattle.told.proofs.Pointers.{register-begins}
use Rattle.told.proofs.Rows.{Standing, start-tells, row-tells}

module _ (σ : Settings) (m : List ℕ) where
  -- a refusal that is true where it is a 7
  abbrev Fair : Refusal → Type 0
  Fair r = r.number ≡ 7 → TrueRefusal σ m r

  fair : (row : ℕ) (x : Fault) → (x.number ≡ 7 → Reached σ m (record { address = x.address; from = x.from }) × (fetch m x.address ≡ None))
      → Fair (refusal row x)
  fair row x h e = rw (eq-eqb x.number 7 e) (record { reached = (h e).0; missing = (h e).1 })

  -- a step: the next state's pointers stand, or the refusal is true
  abbrev Goes : StepAnswer → Type 0
  Goes (Drawn r q) = Standing σ m q.state.fields
  Goes (Ended rows words) = Unit
  Goes (Refused r) = Fair r

  by-outcome : (p : Progress) (b : List ℕ) {o : Outcome Row} → Ends m (Reached σ m) (λ r. Standing σ m r.next) o
      → Goes (row_step p (answered σ p.state.fields b o).answer)
  by-outcome p b (gives h) = h
  by-outcome p b (tells {x} h) = fair p.state.fields.row x h

  by_call : (p : Progress) (b : List ℕ) → Standing σ m p.state.fields → Goes (row_step p (row_call σ m p.state b).answer)
  unfolding row_call
  by_call p b s =
      if-cases (λ (c : Called). Goes (row_step p c.answer)) (eqb (length b) 132)
      (λ _. by-outcome p b (run_ends m 0 (row-tells σ m p.state s))) (λ _ e. absurd (omega (arith, e)))

  steps : (p : Progress) (b : List ℕ) → Standing σ m p.state.fields → Goes (step σ m p b).answer
  unfolding step
  steps p b s = if-cases (λ (x : Stepped). Goes x.answer) (eqb p.state.fields.left 0) (λ _. tt) (λ _. by_call p b s)

  -- a frame whose refusal, if it has one, is true
  abbrev FairFrame : Frame → Type 0
  FairFrame f = (r : Refusal) → f.refusal ≡ some r → Fair r

  no-refusal : (r : Refusal) → ◌≡◌ {A = Option Refusal} none (some r) → Fair r
  no-refusal r e = let q : ◌≡◌ {A = ℕ} 0 1 = cc in absurd (omega arith)

  this-refusal : (x : Refusal) → Fair x → (r : Refusal) → ◌≡◌ {A = Option Refusal} (some x) (some r) → Fair r
  this-refusal x h r e = let q : x ≡ r = cc in subst Fair q h

  by_answer_lem : (go_on : Progress → Frame) (p : Progress) (x : StepAnswer) (cells : List ℕ) → Goes x
      → ((q : Progress) → Standing σ m q.state.fields → FairFrame (go_on q)) → FairFrame (by_answer go_on p x cells)
  by_answer_lem go_on p (Drawn r q) cells h k = k q h
  by_answer_lem go_on p (Ended rows words) cells h k = no-refusal
  by_answer_lem go_on p (Refused r) cells h k = this-refusal r h

  followed : (n : ℕ) (p : Progress) → Standing σ m p.state.fields → FairFrame (within n σ m p)
  unfolding within
  followed zero p s = no-refusal
  followed (suc n) p s = let x = step σ m p blank in by_answer_lem (within n σ m) p x.answer x.buffer (steps p blank s) (followed n)

  from_start : {o : Outcome State} → Ends m (Reached σ m) (λ s. Standing σ m s.fields) o → FairFrame (from_begin σ m (begun (started o)))
  unfolding rest
  from_start (gives {k} {a = s} h) = followed _ (record { state = s; words = k }) h
  from_start (tells {x} h) = this-refusal (refusal 0 x) (fair 0 x h)

  -- of every frame from a start
  pub told-true : (latch : ℕ) → ToldTrue latch σ m
  unfolding frame begin
  told-true latch = from_start (run_ends m 0 (start-tells σ m latch))

  -- ---- where the address told is not 0 ----
  by-words : (r : Refusal) {p : Pointer} → Held σ m p → p.from ≡ r.from → Leads σ.linear m p.address r.address
      → (r.from ≡ 0 → ⊥) → ByWords σ m r
  by-words r by_top e l z = absurd (z (sym e ∙ register-begins σ.linear σ.top))
  by-words r by_tow e l z = absurd (z (sym e ∙ register-begins σ.linear σ.tow))
  by-words r (by_memory {p} first second f s d) e l z =
      let same : p.address ≡ (pointer σ.linear r.from first second).address =
      ap (λ (q : Pointer). q.address) d ∙ ap (λ (a : ℕ). (pointer σ.linear a first second).address) e in
      record {
        first = first;
        second = second;
        first_there = ap (fetch m) (sym e) ∙ f;
        second_there = ap (λ (a : ℕ). fetch m (next_word σ.linear a)) (sym e) ∙ s;
        leads = subst (λ (a : ℕ). Leads σ.linear m a r.address) same l;
      }

  pub told-words : (latch : ℕ) (r : Refusal) → (frame latch σ m).refusal ≡ some r → r.number ≡ 7 → (r.from ≡ 0 → ⊥) → ByWords σ m r
  told-words latch r e n z = let t = (told-true latch r e n).reached in by-words r t.held t.begins t.leads z
