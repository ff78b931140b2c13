-- The calls that read memory, by the numbers at their places: a start, a row, a row beside the cut, a shift, a row's effect.
use Rattle.std.proofs.Common.{Option, Some, None}
use mathlib.Core.Path.{◌≡◌, refl, subst}
use mathlib.Core.Bool.{Bool, true, false, ◌&&◌}
use mathlib.Core.List.{List, [], ◌∷◌}
use Prim.Native.Nat.{ℕ, ◌≤◌}
use native.Mathlib.Omega.{arith}
use lib.IntN.{ℤ, pos}
use lib.Signed.{lt_z}
use lib.ListN.{length}
use lib.Dec.{eqb}
use borrow.Author.Tests.{eqb-true}
use Rattle.memory.specs.Word.{when◌then◌else◌, at}
use Rattle.memory.specs.Reading.{Outcome, given, refused, run, refusal}
use Rattle.memory.proofs.ReadBounds.{both, if-cases}
use Rattle.settings.specs.declared.PointerWords.{PointerWords}
use Rattle.settings.specs.declared.Settings.{Settings}
use Rattle.state.specs.declared.Fields.{Fields}
use Rattle.state.specs.declared.State.{State}
use Rattle.state.specs.State.{state_of}
use Rattle.row.specs.Row.{Row}
use Rattle.scroll.specs.declared.FrameShift.{FrameShift}
use Rattle.scroll.specs.Scroll.{shift, shift_answered, shift_call}
use Rattle.listed.specs.Listed.{StartListed, RowListed, row_listed}
use Rattle.listed_beside.specs.ListedBeside.{BesideListed, beside_listed}
use Rattle.joining.specs.declared.Part.{Part}
use Rattle.effect.specs.Effect.{part_of, latch_with, outcome_for, effect_call}
use Rattle.numbers.specs.Decode.{settings_in, state_in, state_at, fields_at, is_state}
use Rattle.answers.specs.AnswerNumbers.{row_numbers}
use Rattle.answers.specs.AfterCall.{Stated}
use Rattle.listed_answers.specs.AfterListed.{StatedListed, DrawnListed, after_start_listed, after_row_listed}
use Rattle.shifts.specs.AfterShift.{scroll_of, after_shift, BesideDone, after_beside, no_state, below_state, beside_from, beside_numbers}
use Rattle.effects.specs.EffectNumbers.{part_numbers, effect_numbers}
use Rattle.thagaduvin.specs.Calls.{start_from, host_start, row_from, row_with, host_row}
use Rattle.thagaduvin_effect.specs.EffectCalls.{effect_from, effect_with, host_effect}
use Rattle.thagaduvin_scroll.specs.ScrollCalls.{shift_from, host_shift, beside_with, host_beside}
use Rattle.refusals.specs.Refusals as Refusals
use Rattle.refusals.specs.Refusals.{has, within}
use Rattle.refusals.proofs.Refuses.{run-missing, Missing, given-missing, refused-missing}
use Rattle.refusals.proofs.Told.{drawing_checks, shift-refuses, row-refuses, any-state}
use Rattle.refusals.proofs.ToldListed.{start-listed-told, row-listed-told}
use Rattle.refusals.proofs.ToldOthers.{beside-told}
use Rattle.theorem_demands.specs.Demands.{of_state, of_start, of_row, of_beside, Kept, Outside}
use Rattle.theorem_demands.proofs.Ways.{Reads, none_reads, accepted-reads, refused-reads, none_kept, accepted-kept}
use Rattle.theorem_demands.proofs.Missed.{run-missed, run-number}
use Rattle.theorem_demands.proofs.Rows.{StartEnds, start-refused, start-given, start-ends, RowEnds, row-refused, row-drawn, row_ends, BesideEnds, no_row, beside-refused, beside-drawn, beside-ends}

-- the one number that is told is in the list
pub one : (n : ℕ) (ns : List ℕ) → within (n ∷ []) ns ≡ true → has n ns ≡ true
one n ns h = (both (has n ns) true h).0

-- an answer of so many places has the first three
pub room : (k : ℕ) (answer : List ℕ) → eqb (length answer) k ≡ true → 3 ≤ k → 3 ≤ length answer
room k answer e h = omega (arith, eqb-true (length answer) k e, h)

-- ---- a start ----

module _ (settings m : List ℕ) (latch : ℕ) (state list answer : List ℕ) where
  abbrev pub Started : StatedListed → Type 0
  Started x = Reads 0 Refusals.start_listed_numbers (state ∷ list ∷ []) answer m (at x.answer 3) x.list (of_start x)

  start-by : {x : StartListed} → 3 ≤ length answer → StartEnds m list x → within (Refusals.of_start x.answer) Refusals.start_listed_numbers ≡ true
      → Started (after_start_listed state answer x)
  start-by l (start-refused r e k) h = refused-reads refl refl l r e (one r.number Refusals.start_listed_numbers h) k
  start-by l (start-given n s xs i) h = accepted-reads _ _ i

  pub start-reads : Started (host_start settings m latch state list answer)
  unfolding host_start
  start-reads =
      if-cases Started (eqb (length state) 23 && eqb (length answer) 4)
      (λ e. by (room 4 answer (both (eqb (length state) 23) (eqb (length answer) 4) e).1 (omega arith)) (settings_in settings)) (λ _. none_reads)
    where
      by : 3 ≤ length answer → (s : Option Settings) → Started (start_from m latch state list answer s)
      by l (Some σ) = start-by l (start-ends latch σ m list) (start-listed-told latch σ m list)
      by l None = none_reads

-- ---- a row ----

-- a state that is read is that of its numbers, and its row is number 1
pub read-state : (xs : List ℕ) {s : State} → state_in xs ≡ Some s → s ≡ state_at xs
unfolding state_in
read-state xs {s} e = by (is_state xs) e
  where
    by : (t : Bool) → (when t then Some (state_at xs) else None) ≡ Some s → s ≡ state_at xs
    by true e = cc
    by false e = let z : ◌≡◌ {A = ℕ} 0 1 = cc in absurd (omega arith)

row_of : (xs : List ℕ) {s : State} → state_in xs ≡ Some s → s.fields.row ≡ at xs 1
unfolding fields_at
row_of xs e = rw (read-state xs e)

module _ (settings m state cells list answer : List ℕ) where
  abbrev pub Drawn : DrawnListed → Type 0
  Drawn x = Reads (at state 1) Refusals.row_listed_numbers (state ∷ cells ∷ list ∷ []) answer m (at x.answer 7) x.list (of_row x)

  row_by : {x : RowListed} → 3 ≤ length answer → RowEnds m (at state 1) cells list x → within (Refusals.of_row x.answer) Refusals.row_listed_numbers ≡ true
      → Drawn (after_row_listed state answer x)
  unfolding row_numbers
  row_by l (row-refused r e k) h = refused-reads refl refl l r e (one r.number Refusals.row_listed_numbers h) k
  row_by l (row-drawn d b xs i) h = accepted-reads _ _ i

  pub row_reads : Drawn (host_row settings m state cells list answer)
  unfolding host_row
  row_reads = if-cases Drawn (eqb (length answer) 8) (λ e. by (room 8 answer e (omega arith)) (settings_in settings)) (λ _. none_reads)
    where
      from : 3 ≤ length answer → (σ : Settings) (s : Option State) → state_in state ≡ s → Drawn (row_from σ m state cells list answer s)
      from l σ (Some s) e =
          let ends = subst (λ (n : ℕ). RowEnds m n cells list (row_listed σ m s cells list)) (row_of state e) (row_ends σ m s cells list) in
          row_by l ends (row-listed-told σ m s cells list)
      from l σ None e = none_reads

      by : 3 ≤ length answer → (s : Option Settings) → Drawn (row_with m state cells list answer s)
      by l (Some σ) = from l σ (state_in state) refl
      by l None = none_reads

-- ---- the row beside the cut ----

module _ (settings m : List ℕ) (shift : ℤ) (soft : PointerWords) (latch : ℕ) (state cells list answer : List ℕ) where
  abbrev BesideOf : ℕ → BesideDone → Type 0
  BesideOf number x = Reads number Refusals.beside_numbers (cells ∷ list ∷ []) answer m (at x.answer 7) x.list (of_beside x)

  abbrev pub Beside : BesideDone → Type 0
  Beside x = BesideOf (when lt_z (pos 0) shift then at state 1 else 0) x

  beside-by : {number : ℕ} {x : BesideListed} → 3 ≤ length answer → BesideEnds m number cells list x
      → within (Refusals.of_beside x.answer) Refusals.beside_numbers ≡ true → BesideOf number (after_beside answer x)
  unfolding beside_numbers
  beside-by l no_row h = accepted-reads _ _ (λ i q. absurd (omega (arith, q)))
  beside-by l (beside-refused r e k) h = refused-reads refl refl l r e (one r.number Refusals.beside_numbers h) k
  beside-by l (beside-drawn d b xs i) h = accepted-reads _ _ i

  from-state : 3 ≤ length answer → (σ : Settings) (s : State) {number : ℕ} → (when lt_z (pos 0) shift then s.fields.row else 0) ≡ number
      → BesideOf number (after_beside answer (beside_listed σ m shift soft latch s cells list))
  from-state l σ s q =
      let x = beside_listed σ m shift soft latch s cells list in
      beside-by l (subst (λ (n : ℕ). BesideEnds m n cells list x) q (beside-ends σ m shift soft latch s cells list)) (beside-told σ m shift soft latch s cells list)

  up : lt_z (pos 0) shift ≡ true → 3 ≤ length answer → (σ : Settings) (s : Option State) → state_in state ≡ s
      → BesideOf (at state 1) (below_state σ m shift soft latch cells list answer s)
  up t l σ (Some s) e = from-state l σ s (rw t (row_of state e))
  up t l σ None e = none_reads

  down : lt_z (pos 0) shift ≡ false → 3 ≤ length answer → (σ : Settings) → BesideOf 0 (after_beside answer (beside_listed σ m shift soft latch no_state cells list))
  down t l σ = from-state l σ no_state (rw t)

  pub beside-reads : Beside (host_beside settings m shift soft latch state cells list answer)
  unfolding host_beside beside_from
  beside-reads = if-cases Beside (eqb (length answer) 8) (λ e. by (room 8 answer e (omega arith)) (settings_in settings)) (λ _. none_reads)
    where
      way : 3 ≤ length answer → (σ : Settings) (t : Bool) → lt_z (pos 0) shift ≡ t
          → BesideOf (when t then at state 1 else 0)
          (when t then below_state σ m shift soft latch cells list answer (state_in state) else after_beside answer (beside_listed σ m shift soft latch no_state cells list))
      way l σ true t = up t l σ (state_in state) refl
      way l σ false t = down t l σ

      by : 3 ≤ length answer → (s : Option Settings) → Beside (beside_with m shift soft latch state cells list answer s)
      by l (Some σ) = way l σ (lt_z (pos 0) shift) refl
      by l None = none_reads

-- ---- a shift, which has no list ----

module _ (settings m : List ℕ) (soft : PointerWords) (scroll answer : List ℕ) where
  abbrev pub Shifted : Stated → Type 0
  Shifted x = Reads 0 Refusals.shift_numbers (scroll ∷ []) answer m 0 [] (of_state x)

  pub shift-reads : Shifted (host_shift settings m soft scroll answer)
  unfolding host_shift shift_call
  shift-reads =
      if-cases Shifted (eqb (length scroll) 3 && eqb (length answer) 5)
      (λ e. by (room 5 answer (both (eqb (length scroll) 3) (eqb (length answer) 5) e).1 (omega arith)) (settings_in settings)) (λ _. none_reads)
    where
      ends : 3 ≤ length answer → (σ : Settings) (o : Outcome FrameShift) → run m (shift σ soft (scroll_of scroll)) ≡ o
          → Shifted (after_shift scroll answer (shift_answered o))
      ends l σ (given n s) e = accepted-reads _ _ (λ i q. absurd (omega (arith, q)))
      ends l σ (refused x) e =
          let checks = shift-refuses σ soft (scroll_of scroll) in
          refused-reads refl refl l (refusal 0 x) refl (run-number Refusals.shift_numbers m checks refl refl e) (run-missed m checks refl e)

      by : 3 ≤ length answer → (s : Option Settings) → Shifted (shift_from m soft scroll answer s)
      by l (Some σ) = ends l σ (run m (shift σ soft (scroll_of scroll))) refl
      by l None = none_reads

-- ---- the effect of a row: its refusals are in its parts ----

module _ (settings m state effect : List ℕ) where
  pub record Effected (x : Stated) : Type 0 where
    pub kept : Kept [] (state ∷ []) effect (of_state x)
    pub missed : x.status ≡ 0 → Outside m (at x.answer 0) (at x.answer 2) × Outside m (at x.answer 6) (at x.answer 8)

  none : Effected (record { status = 255; state = state; answer = effect })
  none = record { kept = none_kept; missed = λ e. absurd (omega (arith, e)) }

  part-missed : (f : Fields) {o : Outcome Row} → Missing m o → Outside m (part_numbers (part_of f o)).number (part_numbers (part_of f o)).address
  part-missed f (given-missing {a = r}) =
      if-cases (λ (p : Part). Outside m (part_numbers p).number (part_numbers p).address) r.drawing.pen.latched (λ _ e. absurd (omega (arith, e)))
      (λ _ e. absurd (omega (arith, e)))
  part-missed f (refused-missing h) = h

  pub effect-reads : Effected (host_effect settings m state effect)
  unfolding host_effect effect_call outcome_for effect_numbers
  effect-reads = if-cases Effected (eqb (length effect) 12) (λ _. by (settings_in settings)) (λ _. none)
    where
      part : (σ : Settings) (f : Fields) (ignore : Bool)
          → Outside m (part_numbers (part_of f (outcome_for σ m f ignore))).number (part_numbers (part_of f (outcome_for σ m f ignore))).address
      part σ f ignore = part-missed f (run-missing {ns = 2 ∷ 17 ∷ 3 ∷ 4 ∷ drawing_checks} refl 0 m (row-refuses σ (state_of (latch_with ignore) f) (any-state refl f) refl refl))

      from : (σ : Settings) (s : Option State) → Effected (effect_from σ m state effect s)
      from σ (Some s) = record { kept = accepted-kept _ _; missed = λ _. (part σ s.fields false, part σ s.fields true) }
      from σ None = none

      by : (s : Option Settings) → Effected (effect_with m state effect s)
      by (Some σ) = from σ (state_in state)
      by None = none
