-- A row's outcomes from its plan: refused as the plan is, or gone on from it; and its effect, where its latch was told.
use Rattle.std.proofs.Common.{Option, Some, Result, Ok, Err}
use mathlib.Core.Path.{◌≡◌, refl, ap, ap₂, sym, ◌∙◌}
use mathlib.Core.Bool.{Bool, true, false}
use mathlib.Core.List.{List}
use Prim.Native.Nat.{ℕ}
use Rattle.memory.specs.Word.{when◌then◌else◌}
use Rattle.memory.specs.declared.Fault.{Fault}
use Rattle.memory.specs.Reading.{Reading, done, ◌>>=◌, Outcome, given, refused, run_from, run}
use Rattle.memory.proofs.Laws.{bind-given, bind-refused, run-done}
use Rattle.memory.proofs.ReadBounds.{if-cases}
use Rattle.settings.specs.declared.Settings.{Settings}
use Rattle.state.specs.declared.Fields.{Fields}
use Rattle.state.specs.declared.State.{State}
use Rattle.plan.specs.Plan.{Plan, plan}
use Rattle.cells.specs.declared.CellsDrawn.{CellsDrawn}
use Rattle.codes.specs.Codes.{Drawing, blank}
use Rattle.cells.specs.Cells.{row_cells}
use Rattle.cells.specs.Answers.{Finished, finish, finished}
use Rattle.cells.proofs.FinishLaws.{finish-refused, finish-given}
use Rattle.row.specs.Row.{code_settings, Row, drawn_by, from_plan, row}
use Rattle.row.proofs.RowLaws.{planned-refused, planned-drawn}
use Rattle.latch.specs.declared.LatchEffect.{LatchEffect}
use Rattle.latch.specs.declared.LatchEffect.TheVariants.{Kept, Latched, Unclear}
use Rattle.latch.specs.Latch.{ending, AsDrawn}
use Rattle.joining.specs.declared.Part.{Part}
use Rattle.joining.specs.declared.Part.TheVariants.{Keep, Set}
use Rattle.effect.specs.Effect.{part_of, next_of, latch_with, outcome_for, effect_of, effect_call}
use Rattle.effect.specs.Answers.{same_parts, part_drawn, next_drawn, refused_effect}

module _ (σ : Settings) (m : List ℕ) (f : Fields) where
  pub plan-refused : {x : Fault} → refused x ≡ run m (plan σ f) → (ignore : Bool) → refused x ≡ outcome_for σ m f ignore
  unfolding outcome_for row
  plan-refused e ignore = sym (bind-refused 0 m (plan σ f) _ (sym e))

  pub plan-given : {n : ℕ} {p : Plan} → given n p ≡ run m (plan σ f) → (ignore : Bool)
      → run_from n m (from_plan σ f.fill (latch_with ignore) p) ≡ outcome_for σ m f ignore
  unfolding outcome_for row
  plan-given e ignore = sym (bind-given 0 m (plan σ f) _ (sym e))

  module _ {n : ℕ} {p : Plan} (e : given n p ≡ run m (plan σ f)) where
    -- an accepted row that has a part and the plan's next fields; the part as told
    abbrev Accepts : Part → Outcome Row → Type 0
    Accepts part o = (part_of f o ≡ part) × ((x : Option Fields) → next_of o x ≡ Some p.next)

    abbrev Ends : LatchEffect → Outcome Row → Type 0
    Ends Kept o = Accepts Keep o
    Ends (Latched w) o = Accepts (Set w) o
    Ends Unclear o = Unit {0}

    row_ends : (r : LatchEffect) (ignore : Bool) → r ≡ ending (run_from n m (row_cells (code_settings σ) f.fill p.overlay p.segments (blank (latch_with ignore))))
        → Ends r (outcome_for σ m f ignore)
    row_ends r ignore h = rw (← plan-given e ignore, h) (out (run_from n m drawn) refl)
      where
        drawn : Reading Drawing
        drawn = row_cells (code_settings σ) f.fill p.overlay p.segments (blank (latch_with ignore))

        out : (o : Outcome Drawing) → run_from n m drawn ≡ o → Ends (ending o) (run_from n m (drawn >>= λ d. done (drawn_by p d)))
        out (given i d) e =
            rw (bind-given n m drawn (λ d. done (drawn_by p d)) e ∙ run-done i m (drawn_by p d))
            (if-cases (λ (r : LatchEffect). Ends r (given i (drawn_by p d))) d.pen.latched (λ t. (rw t, λ x. refl)) (λ t. (rw t, λ x. refl)))
        out (refused x) e = tt

    -- the effect of a row whose latch was told
    same : (part : Part) → ((ignore : Bool) → Accepts part (outcome_for σ m f ignore)) → same_parts part p.next ≡ effect_call σ m f
    unfolding effect_call
    same part h = rw ((h false).0, (h true).0, (h false).1)

    pub kept-effect : AsDrawn (code_settings σ) m f.fill p.overlay p.segments Kept → same_parts Keep p.next ≡ effect_call σ m f
    kept-effect h = same Keep (λ ignore. row_ends Kept ignore (h n (latch_with ignore)))

    pub latched-effect : (w : ℕ) → AsDrawn (code_settings σ) m f.fill p.overlay p.segments (Latched w) → same_parts (Set w) p.next ≡ effect_call σ m f
    latched-effect w h = same (Set w) (λ ignore. row_ends (Latched w) ignore (h n (latch_with ignore)))

-- the effect of a row whose plan is refused
pub refused-effect : (σ : Settings) (m : List ℕ) (f : Fields) {x : Fault} → refused x ≡ run m (plan σ f) → refused_effect f x ≡ effect_call σ m f
unfolding effect_call
refused-effect σ m f e = ap₂ (effect_of f) (plan-refused σ m f e false) (plan-refused σ m f e true)

-- what the cells of a planned row tell is the row's
module _ (σ : Settings) (m : List ℕ) (s : State) {n : ℕ} {p : Plan} (e : given n p ≡ run m (plan σ s.fields)) where
  pub cells-row : (c : Result CellsDrawn Fault) (cs : List ℕ)
      → finished c cs ≡ finish (run_from n m (row_cells (code_settings σ) s.fields.fill p.overlay p.segments (blank s.latch)))
      → (part_drawn s.fields c ≡ part_of s.fields (run m (row σ s))) × ((x : Option Fields) → next_drawn p.next c x ≡ next_of (run m (row σ s)) x)
  cells-row (Err x) cs h = rw (← planned-refused σ m s e (finish-refused _ h)) (refl, λ x. refl)
  cells-row (Ok d) cs h =
      let g = finish-given _ h in
      rw (← planned-drawn σ m s e g.is) (
        ap₂ (λ (b : Bool) (w : ℕ). when b then Set w else Keep) (ap (λ (f : Finished). f.latched) g.same) (ap (λ (f : Finished). f.latch) g.same),
        λ x. refl,
      )
