-- The laws by which a proof follows a row.
use mathlib.Core.Path.{◌≡◌, refl, sym, ◌∙◌}
use mathlib.Core.Bool.{Bool, true, false, ◌&&◌}
use mathlib.Core.List.{List}
use Prim.Native.Nat.{ℕ, ◌≤◌}
use native.Mathlib.Omega.{arith}
use lib.ListN.{length, set}
use lib.Seq.{set_out}
use lib.Dec.{ltb, lit≤}
use borrow.Author.Tests.{ltb-false}
use Rattle.memory.specs.Word.{when◌then◌else◌}
use Rattle.memory.specs.declared.Fault.{Fault}
use Rattle.memory.specs.Reading.{Reading, given, refused, run_from, run}
use Rattle.memory.proofs.Laws.{bind-given, bind-refused, run-done}
use Rattle.memory.proofs.ReadBounds.{Words, reads-given}
use Rattle.settings.specs.declared.Settings.{Settings}
use Rattle.state.specs.declared.Fields.{Fields}
use Rattle.state.specs.declared.State.{State}
use Rattle.layout.specs.Layout.{Overlay, none, over}
use Rattle.plan.specs.Plan.{Plan, plan}
use Rattle.layout.proofs.OverlayBounds as Overlays
use Rattle.plan.proofs.PlanBounds as Bounds
use Rattle.codes.specs.Codes.{Drawing, blank}
use Rattle.cells.specs.Cells.{row_cells}
use Rattle.cells.specs.Answers.{Inside, Drawable}
use Rattle.row.specs.Row.{code_settings, drawn_by, row}

-- what a sound plan gives the cells
inside : (hidden : Bool) (o : Overlay) → Overlays.Inside hidden o → Inside hidden o
inside hidden none h = lit≤ tt
inside hidden (over number first end ws) h = (h.1, h.2)

drawable : (hidden : Bool) (f : Fields) (p : Plan) → Bounds.Sound hidden f p → Drawable hidden p.overlay p.segments
drawable hidden f p s = record { narrow = s.narrow; inside = inside hidden p.overlay s.inside; edges = s.edges }

-- what a row's plan, once given, lets the cells rely on
pub plan-drawable : (σ : Settings) (m : List ℕ) → Words m → (f : Fields) {n : ℕ} {p : Plan} → given n p ≡ run m (plan σ f)
    → Drawable σ.hidden p.overlay p.segments × (n ≤ 1000)
plan-drawable σ m b f {p = p} e =
    let k = reads-given 0 m b (Bounds.plan-reads σ f) (sym e) in (drawable σ.hidden f p k.1, omega arith)

-- a row is refused as its plan is
pub plan-refused : (σ : Settings) (m : List ℕ) (s : State) {x : Fault} → refused x ≡ run m (plan σ s.fields) → refused x ≡ run m (row σ s)
unfolding row
plan-refused σ m s h = sym (bind-refused 0 m (plan σ s.fields) _ (sym h))

-- a row from its plan, once that is given
module _ (σ : Settings) (m : List ℕ) (s : State) {n : ℕ} {p : Plan} (e : given n p ≡ run m (plan σ s.fields)) where
  abbrev cells : Reading Drawing
  cells = row_cells (code_settings σ) s.fields.fill p.overlay p.segments (blank s.latch)

  pub planned-refused : {x : Fault} → refused x ≡ run_from n m cells → refused x ≡ run m (row σ s)
  unfolding row
  planned-refused h = sym (bind-given 0 m (plan σ s.fields) _ (sym e) ∙ bind-refused n m cells _ (sym h))

  pub planned-drawn : {i : ℕ} {d : Drawing} → given i d ≡ run_from n m cells → given i (drawn_by p d) ≡ run m (row σ s)
  unfolding row
  planned-drawn h = sym (bind-given 0 m (plan σ s.fields) _ (sym e) ∙ bind-given n m cells _ (sym h) ∙ run-done _ _ _)

-- a mark past the cells changes nothing
pub mark-off : (b : Bool) (x v : ℕ) (cs : List ℕ) → b && ltb x 132 ≡ false → length cs ≡ 132 → cs ≡ (when b then set cs x v else cs)
mark-off true x v cs e l = sym (set_out cs x v (omega (arith, ltb-false x 132 e)))
mark-off false x v cs e l = refl
