-- The calls that change settings and memory: mending and the conversion. A refusal leaves both.
use Rattle.std.proofs.Common.{Option, Some, None}
use mathlib.Core.Path.{◌≡◌, refl}
use mathlib.Core.Bool.{Bool, true, false}
use mathlib.Core.List.{List, [], ◌∷◌}
use Prim.Native.Nat.{ℕ, zero, suc, ◌/◌, ◌≤◌}
use native.Mathlib.Omega.{arith}
use lib.ListN.{length}
use lib.Dec.{eqb, ltb}
use borrow.Author.Tests.{ltb-false}
use Rattle.memory.specs.Word.{when◌then◌else◌, at}
use Rattle.memory.specs.declared.Fault.{Fault}
use Rattle.memory.specs.declared.Refusal.{Refusal}
use Rattle.memory.specs.Reading.{Reading, refusal, fault}
use Rattle.memory.proofs.ReadBounds.{Words, if-cases}
use Rattle.settings.specs.declared.Settings.{Settings}
use Rattle.settings.specs.Good.{good}
use Rattle.windows.specs.Window.{first_window}
use Rattle.state.specs.declared.State.{State}
use Rattle.start.specs.Start.{window_start}
use Rattle.numbers.specs.Decode.{settings_at, settings_in}
use Rattle.answers.specs.Changing.{Left}
use Rattle.blame.specs.declared.Verdict.{Verdict}
use Rattle.blame.proofs.Frames.{Registers, whole, blames, Fair, judged, as-it-is, verdict-fair}
use Rattle.mending.specs.Mending.{by_verdict, mend_step}
use Rattle.thagaduvin_mend.specs.MendCalls.{after_step, mend_with, host_mend}
use Rattle.converter.specs.Walk.{word_of, read_on, shared, marked, Walked, went, halted, walk}
use Rattle.converter.specs.Below.{state_after}
use Rattle.converter.specs.Converter.{Followed, ended, stopped, onwards, follow_rows, follow, Called, kept, convert_by, convert_call}
use Rattle.thagaduvin_convert.specs.ConvertCalls.{refusal_numbers, after_call, convert_with, host_convert}
use Rattle.refusals.specs.Refusals as Refusals
use Rattle.refusals.specs.Refusals.{has, within}
use Rattle.refusals.proofs.Refuses.{Refuses, dones, refuses, asks, bind}
use Rattle.refusals.proofs.Told.{drawing_checks, any-state, top-refuses, window-refuses, below-refuses}
use Rattle.refusals.proofs.ToldOthers.{main-refuses, convert-told}
use Rattle.theorem_demands.specs.Demands.{of_change, Kept, Outside}
use Rattle.theorem_demands.proofs.Ways.{other, Reads, none_reads, accepted-reads, refused-reads, none_kept, accepted-kept, refused-kept}
use Rattle.theorem_demands.proofs.Missed.{run-missed, run-number}
use Rattle.theorem_demands.proofs.Reading.{one, room}

-- ---- mending ----

-- TOP's and TOW's words are read as 16 bits
registers : (xs : List ℕ) → Registers (settings_at xs)
unfolding settings_at
registers xs = record { top = omega arith; tow = omega arith }

module _ (settings m : List ℕ) (latch : ℕ) (answer : List ℕ) (w : Words m) where
  abbrev pub Mended : Left → Type 0
  Mended x = Reads 0 Refusals.mend_numbers (settings ∷ m ∷ []) answer m 0 [] (of_change x)

  step-reads : (σ : Settings) (regs : Registers σ) → 3 ≤ length answer → {v : Verdict} → Fair σ m w regs latch v
      → Mended (after_step settings answer (by_verdict σ m v))
  step-reads σ regs l (judged whole) = accepted-reads _ _ (λ i q. absurd (omega (arith, q)))
  step-reads σ regs l (judged (blames h k)) = accepted-reads _ _ (λ i q. absurd (omega (arith, q)))
  step-reads σ regs l (as-it-is {x} e) =
      refused-reads refl refl l (refusal 0 x) refl (run-number Refusals.mend_numbers m (main-refuses σ) refl refl e) (run-missed m (main-refuses σ) refl e)

  pub mend-reads : Mended (host_mend settings m latch answer)
  unfolding host_mend settings_in mend_step
  mend-reads =
      if-cases Mended (eqb (length answer) 8)
      (λ e. if-cases (λ (s : Option Settings). Mended (mend_with settings m latch answer s)) (eqb (length settings) 18)
      (λ _. step-reads (settings_at settings) (registers settings) (room 8 answer e (omega arith)) (verdict-fair (settings_at settings) m w (registers settings) latch))
      (λ _. none_reads))
      (λ _. none_reads)

-- ---- a conversion: what following its frame comes to ----

module _ (m : List ℕ) where
  data Met {A : Type 0} : Walked A → Type 0 where
    went_on : {marks : List ℕ} {a : A} → Met (went marks a)
    met : {x : Fault} → Outside m x.number x.address → Met (halted x)

  data Ends : Followed → Type 0 where
    to_end : {marks : List ℕ} → Ends (ended marks)
    stops : {r : Refusal} → Outside m r.number r.address → Ends (stopped r)

  onwards-ends : {A : Type 0} (row : ℕ) {w : Walked A} {next : List ℕ → A → Followed} → Met w
      → ((marks : List ℕ) (a : A) → Ends (next marks a)) → Ends (onwards row w next)
  onwards-ends row (went_on {marks} {a}) k = k marks a
  onwards-ends row (met {x} h) k = stops {r = refusal row x} h

  -- the checks of what it follows
  abbrev checks : List ℕ
  checks = 6 ∷ 14 ∷ 3 ∷ 4 ∷ drawing_checks

  walk_ends : {A : Type 0} (held : ℕ) (marks : List ℕ) {p : Reading A} → Refuses checks p → Met (walk held m marks p)
  unfolding walk
  walk_ends held marks dones = went_on
  walk_ends held marks (refuses {x} h) = met {x = x} λ n. absurd (other checks x.number 7 h refl n)
  walk_ends held marks (asks {q} g) =
      if-cases Met (read_on held m q.address q.from) (λ _. met λ e. absurd (omega (arith, e))) λ _.
      if-cases Met (ltb (q.address / 2) (length m))
      (λ _. if-cases Met (shared marks q) (λ _. met λ e. absurd (omega (arith, e))) (λ _. walk_ends held (marked marks q) (g (word_of m q.address))))
      (λ e. met λ _. ltb-false (q.address / 2) (length m) e)

  rows_end : (n : ℕ) (σ : Settings) (marks : List ℕ) (s : State) → Ends (follow_rows n σ m marks s)
  unfolding follow_rows
  rows_end zero σ marks s = to_end
  rows_end (suc n) σ marks s =
      if-cases Ends (eqb s.fields.left 0) (λ _. to_end) λ _.
      onwards-ends s.fields.row (walk_ends 0 marks (below-refuses σ s (any-state refl s.fields))) λ marks₁ r. rows_end n σ marks₁ (state_after r)

  follow-ends : (latch : ℕ) (σ : Settings) → Ends (follow latch σ m)
  unfolding follow window_start first_window
  follow-ends latch σ =
      onwards-ends 0 (walk_ends _ _ (top-refuses refl refl false σ.top)) λ marks b.
      onwards-ends 0 (walk_ends _ marks (bind (window-refuses refl σ.linear 0 0 _) λ w. dones)) λ marks₁ s.
      rows_end s.fields.left σ marks₁ s

-- the call
module _ (settings m : List ℕ) (marks latch : ℕ) (answer : List ℕ) where
  pub record Converted (x : Left) : Type 0 where
    pub stays : Kept Refusals.convert_numbers (settings ∷ m ∷ []) answer (of_change x)
    pub missed : Outside m x.status (at x.answer 1)

  none : Converted (record { status = 255; settings = settings; memory = m; answer = answer })
  none = record { stays = none_kept; missed = λ e. absurd (omega (arith, e)) }

  refuse : (r : Refusal) → within (r.number ∷ []) Refusals.convert_numbers ≡ true → Outside m r.number r.address
      → Converted (after_call settings (kept m r))
  unfolding refusal_numbers
  refuse r h k = record { stays = refused-kept refl r.number _ (one r.number Refusals.convert_numbers h); missed = k }

  by-follow : (σ : Settings) {f : Followed} → Ends m f → within (Refusals.of_convert (convert_by σ m f).answer) Refusals.convert_numbers ≡ true
      → Converted (after_call settings (convert_by σ m f))
  unfolding convert_by
  by-follow σ to_end h = record { stays = accepted-kept _ _; missed = λ e. absurd (omega (arith, e)) }
  by-follow σ (stops {r} k) h = refuse r h k

  -- the call, by its three tests
  abbrev call : (σ : Settings) (a b c : Bool) → Called
  call σ a b c =
      when a
      then (when b then (when c then kept m (refusal 0 (fault 26)) else convert_by σ m (follow latch σ m)) else kept m (refusal 0 (fault 2)))
      else kept m (refusal 0 (fault 22))

  call-reads : (σ : Settings) → Converted (after_call settings (convert_call latch σ m marks))
  unfolding convert_call
  call-reads σ = tests (eqb marks (length m)) (good σ) σ.linear (convert-told latch σ m marks)
    where
      tests : (a b c : Bool) → within (Refusals.of_convert (call σ a b c).answer) Refusals.convert_numbers ≡ true → Converted (after_call settings (call σ a b c))
      tests true true true h = refuse (refusal 0 (fault 26)) h λ e. absurd (omega (arith, e))
      tests true true false h = by-follow σ (follow-ends m latch σ) h
      tests true false c h = refuse (refusal 0 (fault 2)) h λ e. absurd (omega (arith, e))
      tests false b c h = refuse (refusal 0 (fault 22)) h λ e. absurd (omega (arith, e))

  pub convert-reads : Converted (host_convert settings m marks latch answer)
  unfolding host_convert
  convert-reads = if-cases Converted (eqb (length answer) 4) (λ _. by (settings_in settings)) (λ _. none)
    where
      by : (s : Option Settings) → Converted (convert_with settings m marks latch answer s)
      by (Some σ) = call-reads σ
      by None = none
