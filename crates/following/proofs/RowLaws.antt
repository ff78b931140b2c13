-- The walk of a row and of a frame, from the walks of their parts.
use Rattle.std.proofs.Common.{Result, Ok, Err, IfOk, Option, Some, None}
use mathlib.Core.Path.{◌≡◌, refl, ap, sym, ◌∙◌}
use mathlib.Core.Bool.{Bool, false}
use mathlib.Core.List.{List}
use Prim.Native.Nat.{ℕ, zero, suc, ◌-◌, ◌<◌}
use native.Mathlib.Omega.{arith}
use lib.ListN.{length, replicate}
use borrow.Author.Tests.{eq-eqb, ne_eqb}
use Rattle.memory.specs.declared.Fault.{Fault}
use Rattle.memory.specs.declared.Refusal.{Refusal}
use Rattle.memory.specs.Reading.{Reading, done, Outcome, given, refused, refusal, run_from, run}
use Rattle.memory.proofs.Laws.{bind-given}
use Rattle.memory.proofs.ReadBounds.{Words, reads-given}
use Rattle.settings.specs.declared.Settings.{Settings}
use Rattle.blocks.specs.declared.FillMode.{FillMode}
use Rattle.blocks.specs.declared.MainBlock.{MainBlock}
use Rattle.layout.specs.declared.OverlayHead.{OverlayHead}
use Rattle.layout.specs.Answers.{overlay_of}
use Rattle.state.specs.declared.Fields.{Fields}
use Rattle.state.specs.declared.State.{State}
use Rattle.windows.specs.Window.{first_window, window_at}
use Rattle.start.specs.declared.Started.{Started}
use Rattle.start.specs.Top.{registered, top_block}
use Rattle.start.specs.Start.{window_start, main_start, started}
use Rattle.plan.specs.declared.PlanHead.{PlanHead}
use Rattle.plan.specs.Plan.{Plan, from_state}
use Rattle.plan.specs.Answers.{plan_answer}
use Rattle.codes.specs.declared.Pen.{Pen}
use Rattle.codes.specs.Codes.{Drawing, blank}
use Rattle.cells.specs.Cells.{row_cells}
use Rattle.layout.proofs.OverlayBounds.{Inside}
use Rattle.row.specs.Row.{Row, code_settings, drawn_by, from_plan}
use Rattle.plan.proofs.PlanBounds.{state-reads}
use Rattle.converter.specs.Walk.{Walked, went, halted, walk}
use Rattle.converter.specs.Below.{row_below, state_after}
use Rattle.converter.specs.Converter.{Followed, ended, stopped, onwards, follow_rows, follow_window, follow}
use Rattle.converter.proofs.WalkLaws.{step_went, step-halted}
use Rattle.marking.specs.Answers.{passed, faulted, trail, pen_of, Narrow}
use Rattle.marking.proofs.TrailLaws.{joined-faulted, joined-given, joined-refused, trail-quiet, trail-done}
use Rattle.marking.proofs.PenLaws.{pen-halted, pen-went}
use Rattle.following.specs.Answers.{state_of_walk}

-- ---- a row ----
-- a window that passed checks 8 and 11 has its columns within the row
narrow-by : (hidden l : Bool) (o : Option OverlayHead) (ws : List ℕ) → Inside hidden (overlay_of l o ws) → Narrow o
narrow-by hidden l None ws h = tt
narrow-by hidden l (Some o) ws h = (omega arith, h.2)

pub narrow : (σ : Settings) (m : List ℕ) → Words m → (f : Fields) (r : Result PlanHead Fault) (bs os : List ℕ)
    → plan_answer σ.linear r bs os ≡ run m (from_state σ f) → IfOk r (λ p. Narrow p.overlay)
narrow σ m w f (Ok p) bs os e = narrow-by σ.hidden σ.linear p.overlay os (reads-given 0 m w (state-reads σ f) (sym e)).1.inside
narrow σ m w f (Err x) bs os e = tt

module _ (σ : Settings) (m marks : List ℕ) where
  module _ (fill : FillMode) (latch : ℕ) (p : Plan) where
    abbrev cells : Reading Drawing
    cells = row_cells (code_settings σ) fill p.overlay p.segments (blank latch)

    pub planned-halted : {x : Fault} → halted x ≡ pen_of (walk 0 m marks cells) → halted x ≡ state_of_walk (walk 0 m marks (from_plan σ fill latch p))
    planned-halted e = sym (ap state_of_walk (step-halted 0 m marks cells (λ d. done (drawn_by p d)) (pen-halted (walk 0 m marks cells) e)))

    pub planned-went : {marks₁ : List ℕ} {pen : Pen} → went marks₁ pen ≡ pen_of (walk 0 m marks cells)
        → went marks₁ (record { latch = pen.latch; fields = p.next }) ≡ state_of_walk (walk 0 m marks (from_plan σ fill latch p))
    unfolding walk
    planned-went {marks₁} {pen} e =
        let d = pen-went (walk 0 m marks cells) e in
        sym (ap state_of_walk (step_went 0 m marks cells (λ d. done (drawn_by p d)) d.is))

  module _ (s : State) where
    abbrev planning : Reading Plan
    planning = from_state σ s.fields

    pub row-faulted : {x : Fault} → trail 0 m marks planning ≡ faulted x → halted x ≡ state_of_walk (walk 0 m marks (row_below σ s))
    unfolding row_below
    row-faulted e = sym (ap state_of_walk (step-halted 0 m marks planning (from_plan σ s.fields.fill s.latch) (joined-faulted 0 m marks planning e)))

    pub row-refused : {marks₁ : List ℕ} {x : Fault} → trail 0 m marks planning ≡ passed marks₁ → run m planning ≡ refused x
        → halted x ≡ state_of_walk (walk 0 m marks (row_below σ s))
    unfolding row_below
    row-refused e r = sym (ap state_of_walk (step-halted 0 m marks planning (from_plan σ s.fields.fill s.latch) (joined-refused 0 m marks planning 0 e r)))

    pub row-planned : {marks₁ : List ℕ} {n : ℕ} {p : Plan} {w : Walked State} → trail 0 m marks planning ≡ passed marks₁ → run m planning ≡ given n p
        → w ≡ state_of_walk (walk 0 m marks₁ (from_plan σ s.fields.fill s.latch p)) → w ≡ state_of_walk (walk 0 m marks (row_below σ s))
    unfolding row_below
    row-planned e r h = h ∙ sym (ap state_of_walk (step_went 0 m marks planning (from_plan σ s.fields.fill s.latch) (joined-given 0 m marks planning 0 e r)))

  -- ---- rows ----
  by-halted : {x : Fault} (row : ℕ) (w : Walked Row) (k : List ℕ → Row → Followed) → halted x ≡ state_of_walk w → stopped (refusal row x) ≡ onwards row w k
  by-halted row (went marks₁ r) k e = cc
  by-halted row (halted y) k e = cc

  by_went : {marks₁ : List ℕ} {s₁ : State} (row : ℕ) (w : Walked Row) (k : List ℕ → State → Followed) → went marks₁ s₁ ≡ state_of_walk w
      → k marks₁ s₁ ≡ onwards row w (λ marks₂ r. k marks₂ (state_after r))
  by_went row (went marks₂ r) k e = cc
  by_went row (halted y) k e = cc

  module _ (s : State) where
    pub rows_none : (n : ℕ) → n ≡ 0 → ended marks ≡ follow_rows n σ m marks s
    unfolding follow_rows
    rows_none n e = rw e

    pub rows-ended : (n : ℕ) → 0 < n → s.fields.left ≡ 0 → ended marks ≡ follow_rows n σ m marks s
    unfolding follow_rows
    rows-ended zero h e = absurd (omega arith)
    rows-ended (suc n) h e = rw (eq-eqb s.fields.left 0 e)

    pub rows-stopped : {x : Fault} (n : ℕ) → 0 < n → (s.fields.left ≡ 0 → ⊥) → halted x ≡ state_of_walk (walk 0 m marks (row_below σ s))
        → stopped (refusal s.fields.row x) ≡ follow_rows n σ m marks s
    unfolding follow_rows
    rows-stopped zero h l e = absurd (omega arith)
    rows-stopped (suc n) h l e = rw (ne_eqb s.fields.left 0 l) (by-halted s.fields.row (walk 0 m marks (row_below σ s)) _ e)

    pub rows_more : {marks₁ : List ℕ} {s₁ : State} (n : ℕ) → 0 < n → (s.fields.left ≡ 0 → ⊥) → went marks₁ s₁ ≡ state_of_walk (walk 0 m marks (row_below σ s))
        → follow_rows (n - 1) σ m marks₁ s₁ ≡ follow_rows n σ m marks s
    unfolding follow_rows
    rows_more zero h l e = absurd (omega arith)
    rows_more {marks₁} {s₁} (suc n) h l e =
        let less : suc n - 1 ≡ n = omega arith in
        ap (λ (k : ℕ). follow_rows k σ m marks₁ s₁) less
        ∙ rw (ne_eqb s.fields.left 0 l) (by_went s.fields.row (walk 0 m marks (row_below σ s)) (follow_rows n σ m) e)

  -- ---- the start ----
  module _ (latch : ℕ) (b : MainBlock) (lin : σ.linear ≡ false) where
    abbrev tow : ℕ
    tow = (registered σ.linear σ.tow).address

    -- the rows from a state on
    abbrev rows : List ℕ → State → Followed
    rows marks₁ s = follow_rows s.fields.left σ m marks₁ s

    -- the memory is segmented
    at-tow : onwards 0 (walk tow m marks (window_start latch σ b)) rows ≡ follow_window latch σ m marks b
    at-tow = ap (λ (l : Bool). onwards 0 (walk (registered l σ.tow).address m marks (window_start latch σ b)) rows) lin

    window-trail : trail tow m marks (window_start latch σ b) ≡ trail tow m marks (window_at σ.linear 0 0 (registered σ.linear σ.tow))
    unfolding window_start first_window
    window-trail = trail-quiet tow m marks (window_at σ.linear 0 0 (registered σ.linear σ.tow)) _ (λ w marks₁. trail-done tow m marks₁ _)

    pub window-faulted : {x : Fault} → trail tow m marks (window_at σ.linear 0 0 (registered σ.linear σ.tow)) ≡ faulted x
        → stopped (refusal 0 x) ≡ follow_window latch σ m marks b
    window-faulted e = sym (ap (λ w. onwards 0 w rows) (joined-faulted tow m marks (window_start latch σ b) (window-trail ∙ e))) ∙ at-tow

    main-run : given 7 b ≡ run m (top_block σ.linear σ.top) → run m (main_start latch σ) ≡ run_from 7 m (window_start latch σ b)
    main-run e = bind-given 0 m (top_block σ.linear σ.top) (window_start latch σ) (sym e)

    module _ {marks₁ : List ℕ} (t : trail tow m marks (window_at σ.linear 0 0 (registered σ.linear σ.tow)) ≡ passed marks₁)
        (e : given 7 b ≡ run m (top_block σ.linear σ.top)) where
      start-refused : {r : Refusal} (o : Outcome State) → run_from 7 m (window_start latch σ b) ≡ o → Err r ≡ started o
          → stopped r ≡ follow_window latch σ m marks b
      start-refused (given n s) h g = cc
      start-refused {r} (refused x) h g =
          let same : r ≡ refusal 0 x = cc in
          ap stopped same ∙ sym (ap (λ w. onwards 0 w rows) (joined-refused tow m marks (window_start latch σ b) 7 (window-trail ∙ t) h)) ∙ at-tow

      start-given : {a : Started} (o : Outcome State) → run_from 7 m (window_start latch σ b) ≡ o → Ok a ≡ started o
          → follow_rows a.state.fields.left σ m marks₁ a.state ≡ follow_window latch σ m marks b
      start-given {a} (given n s) h g =
          let same : a.state ≡ s = cc in
          ap (rows marks₁) same ∙ sym (ap (λ w. onwards 0 w rows) (joined-given tow m marks (window_start latch σ b) 7 (window-trail ∙ t) h)) ∙ at-tow
      start-given (refused x) h g = cc

      pub window-refused : {r : Refusal} → Err r ≡ started (run m (main_start latch σ)) → stopped r ≡ follow_window latch σ m marks b
      window-refused g = start-refused (run_from 7 m (window_start latch σ b)) refl (g ∙ ap started (main-run e))

      pub window-given : {a : Started} → Ok a ≡ started (run m (main_start latch σ))
          → follow_rows a.state.fields.left σ m marks₁ a.state ≡ follow_window latch σ m marks b
      window-given g = start-given (run_from 7 m (window_start latch σ b)) refl (g ∙ ap started (main-run e))

  module _ (latch : ℕ) (lin : σ.linear ≡ false) (clear : marks ≡ replicate (length m) 0) where
    abbrev top : ℕ
    top = (registered σ.linear σ.top).address

    at_top : onwards 0 (walk top m marks (top_block σ.linear σ.top)) (follow_window latch σ m) ≡ follow latch σ m
    unfolding follow
    at_top =
        ap (λ (l : Bool). onwards 0 (walk (registered l σ.top).address m marks (top_block l σ.top)) (follow_window latch σ m)) lin
        ∙ ap (λ (ks : List ℕ). onwards 0 (walk (registered false σ.top).address m ks (top_block false σ.top)) (follow_window latch σ m)) clear

    pub top-faulted : {x : Fault} → trail top m marks (top_block σ.linear σ.top) ≡ faulted x → stopped (refusal 0 x) ≡ follow latch σ m
    top-faulted e = sym (ap (λ w. onwards 0 w (follow_window latch σ m)) (joined-faulted top m marks (top_block σ.linear σ.top) e)) ∙ at_top

    pub top-refused : {marks₁ : List ℕ} {x : Fault} → trail top m marks (top_block σ.linear σ.top) ≡ passed marks₁ → run m (top_block σ.linear σ.top) ≡ refused x
        → stopped (refusal 0 x) ≡ follow latch σ m
    top-refused e r = sym (ap (λ w. onwards 0 w (follow_window latch σ m)) (joined-refused top m marks (top_block σ.linear σ.top) 0 e r)) ∙ at_top

    pub top-given : {marks₁ : List ℕ} {b : MainBlock} → trail top m marks (top_block σ.linear σ.top) ≡ passed marks₁ → run m (top_block σ.linear σ.top) ≡ given 7 b
        → follow_window latch σ m marks₁ b ≡ follow latch σ m
    top-given e r = sym (ap (λ w. onwards 0 w (follow_window latch σ m)) (joined-given top m marks (top_block σ.linear σ.top) 0 e r)) ∙ at_top
