-- An accepted row call: the row that its slices stand for came to its cells and its count by the rules. And the sheet's numbers.
use Rattle.std.proofs.Common.{Option, Result}
use mathlib.Core.Path.{◌≡◌, refl, sym, ap, subst, ◌∙◌}
use mathlib.Core.Bool.{true}
use mathlib.Core.List.{List, [], ◌∷◌}
use Prim.Native.Nat.{ℕ, ◌+◌, ◌<◌}
use native.Mathlib.Omega.{arith}
use lib.ListN.{length}
use lib.Dec.{eqb}
use Rattle.memory.specs.Word.{at}
use Rattle.memory.specs.declared.Fault.{Fault}
use Rattle.memory.specs.Reading.{Outcome, given, refused, run_from, run, asked, done}
use Rattle.memory.proofs.Laws.{bind-given, bind-refused, step_given, step-refused, run-done}
use Rattle.memory.proofs.ReadBounds.{Words, if-cases}
use Rattle.memory.specs.declared.Refusal.{Refusal}
use Rattle.settings.specs.declared.Settings.{Settings}
use Rattle.settings.specs.declared.Field.TheVariants.{Even, Odd}
use Rattle.settings.specs.Good.{good}
use Rattle.settings.specs.Timing.{timing, lines_for_rows, clocks, invoking_codes}
use Rattle.settings.specs.Sheet.{sheet_of, sheet_call}
use Rattle.settings.specs.declared.Sheet.{Sheet}
use Rattle.state.specs.declared.State.{State}
use Rattle.plan.specs.Plan.{Plan, plan}
use Rattle.codes.specs.Codes.{Drawing, blank}
use Rattle.cells.specs.Cells.{row_cells}
use Rattle.row.specs.Row.{Row, code_settings, drawn_by, from_plan, row, with_cursor, Called, answered, row_call}
use Rattle.row.proofs.RowBound.{row-bound, cursor-length}
use Rattle.listed.specs.Listed.{unless_refused, RowListed, called_with, row_listed}
use Rattle.listed.proofs.ListedLaws.{words-asked}
use Rattle.numbers.specs.Decode.{settings_at, settings_in, fields_at, state_at, is_state, state_in}
use Rattle.answers.specs.AnswerNumbers.{sheet_numbers, row_numbers}
use Rattle.answers.specs.AfterCall.{Answered, after_sheet}
use Rattle.listed_answers.specs.AfterListed.{DrawnListed, after_row_listed}
use Rattle.refusals.specs.Refusals.{row_listed_numbers, within}
use Rattle.refusals.proofs.Told.{drawing_checks, any-state, row-refuses}
use Rattle.thagaduvin.specs.Calls.{sheet_from, host_sheet, row_from, row_with, host_row}
use Rattle.theorem_demands.specs.Demands.{OneSource, ByRules}
use Rattle.theorem_demands.proofs.Ways.{other}
use Rattle.theorem_demands.proofs.Missed.{run-number}
use Rattle.theorem_demands.proofs.Reading.{one}
use Rattle.theorem_demands.proofs.Sources.{one-source}

-- ---- a row is its plan, and then its cells on that plan ----

module _ (σ : Settings) (m : List ℕ) (s : State) where
  record Parts (n : ℕ) (r : Row) : Type 0 where
    rules : Plan
    block_words : ℕ
    planned : run m (plan σ s.fields) ≡ given block_words rules
    drawing : Drawing
    cell_words : ℕ
    drawn : run m (row_cells (code_settings σ) s.fields.fill rules.overlay rules.segments (blank s.latch)) ≡ given cell_words drawing
    same : r ≡ drawn_by rules drawing

  no_result : {x : Fault} {n : ℕ} {r : Row} → ◌≡◌ {A = Outcome Row} (refused x) (given n r) → ⊥
  no_result e = let z : ◌≡◌ {A = ℕ} 0 1 = cc in omega arith

  parts : {n : ℕ} {r : Row} → run m (row σ s) ≡ given n r → Parts n r
  unfolding row
  parts {n} {r} e = by-plan (run m (plan σ s.fields)) refl
    where
      by-cells : (i : ℕ) (p : Plan) → run m (plan σ s.fields) ≡ given i p → (o : Outcome Drawing)
          → run m (row_cells (code_settings σ) s.fields.fill p.overlay p.segments (blank s.latch)) ≡ o → Parts n r
      by-cells i p h (given k d) q =
          let came : run_from i m (from_plan σ s.fields.fill s.latch p) ≡ given (i + k) (drawn_by p d) =
          step_given i m (row_cells (code_settings σ) s.fields.fill p.overlay p.segments (blank s.latch)) (λ d. done (drawn_by p d)) q
          ∙ run-done (i + k) m (drawn_by p d) in
          let whole : given (i + k) (drawn_by p d) ≡ given n r = sym (bind-given 0 m (plan σ s.fields) (from_plan σ s.fields.fill s.latch) h ∙ came) ∙ e in
          record { rules = p; block_words = i; planned = h; drawing = d; cell_words = k; drawn = q; same = cc }
      by-cells i p h (refused x) q =
          let came = step-refused i m (row_cells (code_settings σ) s.fields.fill p.overlay p.segments (blank s.latch)) (λ d. done (drawn_by p d)) q in
          absurd (no_result (sym (bind-given 0 m (plan σ s.fields) (from_plan σ s.fields.fill s.latch) h ∙ came) ∙ e))

      by-plan : (o : Outcome Plan) → run m (plan σ s.fields) ≡ o → Parts n r
      by-plan (given i p) h = by-cells i p h _ refl
      by-plan (refused x) h = absurd (no_result (sym (bind-refused 0 m (plan σ s.fields) (from_plan σ s.fields.fill s.latch) h) ∙ e))

  -- an accepted row, whatever its state's and its list's places then hold
  pub record Accepted (n : ℕ) (r : Row) (x : DrawnListed) : Type 0 where
    pub cells : x.cells ≡ with_cursor σ s.fields r.drawing.cells
    pub words : at x.answer 7 ≡ n

  pub by-rules : Words m → s.fields.fill.code < 256 → {n : ℕ} {r : Row} → run m (row σ s) ≡ given n r → {x : DrawnListed} → Accepted n r x → ByRules σ m s x
  by-rules w l {n} {r} e {x} h =
      let p = parts e in
      let bound = row-bound σ m w s n r e in
      let size : length x.cells ≡ 132 = ap length h.cells ∙ cursor-length σ s.fields r.drawing.cells ∙ bound.1 in
      let long = cursor-length σ s.fields r.drawing.cells ∙ bound.1 in
      let source : (i : ℕ) → i < 132 → OneSource s.fields.row r.next.window (at x.cells i) =
      λ i k. rw h.cells (one-source σ m w s l e i (omega (arith, k, long))) in
      record {
        rules = p.rules;
        block_words = p.block_words;
        planned = p.planned;
        drawing = p.drawing;
        cell_words = p.cell_words;
        drawn = p.drawn;
        cells = h.cells ∙ ap (λ (y : Row). with_cursor σ s.fields y.drawing.cells) p.same;
        size = size;
        source = λ i k. subst (λ (y : Row). OneSource s.fields.row y.next.window (at x.cells i)) p.same (source i k);
        words = h.words ∙ words-asked 0 m (row σ s) e ∙ omega arith;
        few = omega (arith, h.words, bound.0);
      }

-- ---- the call ----

-- the number of a refused row
abbrev outcome_number : Outcome Row → List ℕ
outcome_number (given n r) = []
outcome_number (refused x) = x.number ∷ []

module _ (settings m state cells list answer : List ℕ) (w : Words m) where
  abbrev Right : DrawnListed → Type 0
  Right x = x.status ≡ 0 → ByRules (settings_at settings) m (state_at state) x

  -- a fill code has 8 bits
  code : (state_at state).fields.fill.code < 256
  unfolding fields_at
  code = omega arith

  by-outcome : (l : List ℕ) (o : Outcome Row) → run m (row (settings_at settings) (state_at state)) ≡ o → within (outcome_number o) row_listed_numbers ≡ true
      → Right (after_row_listed state answer (called_with (answered (settings_at settings) (state_at state).fields cells o) l))
  unfolding row_numbers
  by-outcome l (given n r) e h q = by-rules (settings_at settings) m (state_at state) w code e (record { cells = refl; words = refl })
  by-outcome l (refused x) e h q = absurd (other row_listed_numbers x.number 0 (one x.number row_listed_numbers h) refl q)

  listed : (l : List ℕ) → Right (after_row_listed state answer (called_with (answered (settings_at settings) (state_at state).fields cells (run m (row (settings_at settings) (state_at state)))) l))
  listed l = by-outcome l (run m (row (settings_at settings) (state_at state))) refl (numbers (run m (row (settings_at settings) (state_at state))) refl)
    where
      numbers : (o : Outcome Row) → run m (row (settings_at settings) (state_at state)) ≡ o → within (outcome_number o) row_listed_numbers ≡ true
      numbers (given n r) e = refl
      numbers (refused x) e =
          let h = run-number row_listed_numbers m (row-refuses (settings_at settings) (state_at state) (any-state {ns = 2 ∷ 17 ∷ 3 ∷ 4 ∷ drawing_checks} refl (state_at state).fields) refl refl) refl refl e in
          rw h

  drawn : Right (after_row_listed state answer (row_listed (settings_at settings) m (state_at state) cells list))
  unfolding row_listed row_call
  drawn =
      if-cases Listed (eqb (length cells) 132)
      (λ e. if-cases Listed (eqb (length list) 12000)
      (λ _. if-cases (λ (c : Called). Listed (called_with c (unless_refused (run m (row (settings_at settings) (state_at state))) (asked m (row (settings_at settings) (state_at state))) list)))
      (eqb (length cells) 132) (λ _. listed _) (λ _ q. absurd (omega (arith, q))))
      (λ _ q. absurd (omega (arith, q))))
      (λ e. if-cases (λ (c : Called). Listed (called_with c list)) (eqb (length cells) 132) (λ _. listed list) (λ _ q. absurd (omega (arith, q))))
    where
      Listed : RowListed → Type 0
      Listed x = Right (after_row_listed state answer x)

  pub row-by-rules : Right (host_row settings m state cells list answer)
  unfolding host_row settings_in state_in
  row-by-rules =
      if-cases Right (eqb (length answer) 8)
      (λ _. if-cases (λ (s : Option Settings). Right (row_with m state cells list answer s)) (eqb (length settings) 18)
      (λ _. if-cases (λ (s : Option State). Right (row_from (settings_at settings) m state cells list answer s)) (is_state state) (λ _. drawn) (λ _ q. absurd (omega (arith, q))))
      (λ _ q. absurd (omega (arith, q))))
      (λ _ q. absurd (omega (arith, q)))

-- ---- the sheet ----

pub sheet-by-rules : (settings answer : List ℕ) → (host_sheet settings answer).status ≡ 0 → (host_sheet settings answer).answer ≡ sheet_numbers (record {
  even = timing (settings_at settings) Even;
  odd = timing (settings_at settings) Odd;
  lines = lines_for_rows (settings_at settings);
  clocks = clocks (settings_at settings);
  invoking = invoking_codes (settings_at settings).flag;
})
unfolding host_sheet settings_in sheet_call sheet_of
sheet-by-rules settings answer =
    if-cases Right (eqb (length answer) 21)
    (λ _. if-cases (λ (s : Option Settings). Right (sheet_from answer s)) (eqb (length settings) 18)
    (λ _. if-cases (λ (a : Result Sheet Refusal). Right (after_sheet answer a)) (good (settings_at settings)) (λ _ q. refl) (λ _ q. absurd (omega (arith, q))))
    (λ _ q. absurd (omega (arith, q))))
    (λ _ q. absurd (omega (arith, q)))
  where
    Right : Answered → Type 0
    Right x = x.status ≡ 0 → x.answer ≡ sheet_numbers (sheet_of (settings_at settings))
