-- What an accepted row tells: its checks have passed, it comes to its fields' next ones with its block's link, and without a redefinition it has
-- the format of its state.
use Rattle.std.proofs.Common.{None}
use mathlib.Core.Path.{◌≡◌, refl, sym, ap, ◌∙◌}
use mathlib.Core.Bool.{Bool, true, false}
use mathlib.Core.List.{List}
use Prim.Native.Nat.{ℕ}
use native.Mathlib.Omega.{arith}
use lib.Dec.{leb, ltb}
use Rattle.memory.specs.declared.Fault.{Fault}
use Rattle.memory.specs.declared.Pointer.{Pointer}
use Rattle.memory.specs.Reading.{Reading, done, ◌>>=◌, check, check_of, nobody, Outcome, given, refused, run_from, run}
use Rattle.memory.specs.Address.{null}
use Rattle.memory.proofs.Laws.{bind-given, bind-refused, run-done}
use Rattle.settings.specs.declared.Settings.{Settings}
use Rattle.settings.specs.Good.{check_settings}
use Rattle.settings.proofs.CheckLaws.{Passing, passing-done, given-passing}
use Rattle.blocks.specs.declared.Cursor.{Cursor}
use Rattle.blocks.specs.declared.FillMode.{FillMode}
use Rattle.blocks.specs.declared.RowFormat.{RowFormat}
use Rattle.blocks.specs.RowBlock.{RowBlock, row_block_at, redefined}
use Rattle.windows.specs.Window.{due_window}
use Rattle.state.specs.declared.Fields.{Fields}
use Rattle.state.specs.State.{state_of, in_range}
use Rattle.layout.specs.Layout.{total, all_fit, none as no_overlay, edges_fit}
use Rattle.layout.specs.Overlay.{overlaid}
use Rattle.background.specs.Background.{BackgroundRow, background_block, background_row}
use Rattle.codes.specs.Codes.{blank}
use Rattle.cells.specs.Cells.{row_cells}
use Rattle.plan.specs.Plan.{Plan, from_blocks, from_state, plan}
use Rattle.row.specs.Row.{code_settings, Row, drawn_by, from_plan, row}
use Rattle.insertion.specs.Followed.{redefinition_of}
use Rattle.plan.specs.Plan as Rules
use Rattle.insertion.proofs.Near.{at}
use Rattle.insertion.proofs.Rows.{plain_fields, widths_of, Passes}

-- a refusal is no result
pub never : {A B : Type 0} {x : Fault} {n : ℕ} {a : A} → ◌≡◌ {A = Outcome A} (refused x) (given n a) → B
never e = let z : ◌≡◌ {A = ℕ} 0 1 = cc in absurd (omega arith)

-- a reading that goes on has come to something first
pub data Came {A B : Type 0} (n : ℕ) (m : List ℕ) (p : Reading A) (k : A → Reading B) (o : Outcome B) : Type 0 where
  came : {i : ℕ} {a : A} → run_from n m p ≡ given i a → run_from i m (k a) ≡ o → Came n m p k o

pub came-by : {A B : Type 0} (n : ℕ) (m : List ℕ) (p : Reading A) (k : A → Reading B) {j : ℕ} {b : B}
    → run_from n m (p >>= k) ≡ given j b → Came n m p k (given j b)
came-by {A} n m p k {j} {b} e = by (run_from n m p) refl
  where
    by : (o : Outcome A) → run_from n m p ≡ o → Came n m p k (given j b)
    by (given i a) h = came h (sym (bind-given n m p k h) ∙ e)
    by (refused x) h = never (sym (bind-refused n m p k h) ∙ e)

-- a check before what a reading came to has passed
passed-of : {A : Type 0} (n : ℕ) (m : List ℕ) (i : ℕ) (p : Pointer) (b : Bool) (k : Unit {0} → Reading A) {j : ℕ} {a : A}
    → run_from n m (check_of i p b >>= k) ≡ given j a → (b ≡ true) × (run_from n m (k tt) ≡ given j a)
unfolding ◌>>=◌ run_from
passed-of n m i p true k e = (refl, e)
passed-of n m i p false k e = never e

pub passed : {A : Type 0} (n : ℕ) (m : List ℕ) (i : ℕ) (b : Bool) (k : Unit {0} → Reading A) {j : ℕ} {a : A}
    → run_from n m (check i b >>= k) ≡ given j a → (b ≡ true) × (run_from n m (k tt) ≡ given j a)
passed n m i b k e = passed-of n m i nobody b k e

pub settings-passed : {A : Type 0} (n : ℕ) (m : List ℕ) (σ : Settings) (k : Unit {0} → Reading A) {j : ℕ} {a : A}
    → run_from n m (check_settings σ >>= k) ≡ given j a → Passing σ × (run_from n m (k tt) ≡ given j a)
settings-passed n m σ k {j} {a} e = by (came-by n m (check_settings σ) k e)
  where
    by : Came n m (check_settings σ) k (given j a) → Passing σ × (run_from n m (k tt) ≡ given j a)
    by (came {a = tt} c last) =
        let h = given-passing σ n m c in
        (h, sym (bind-given n m (check_settings σ) k (ap (run_from n m) (passing-done σ h) ∙ run-done n m tt)) ∙ e)

module _ (σ : Settings) (m : List ℕ) where
  -- its checks have passed, and its format is its plan's
  data Planned (f : Fields) (r : Row) : Type 0 where
    planned : {i : ℕ} {p : Plan} → Passes σ f → run m (from_blocks σ f) ≡ given i p → r.format ≡ p.format → Planned f r

  row-planned : (l : ℕ) (f : Fields) {n : ℕ} {r : Row} → run m (row σ (state_of l f)) ≡ given n r → Planned f r
  unfolding row plan run_from
  row-planned l f {n} {r} e = by-plan (came-by 0 m (plan σ f) (from_plan σ f.fill l) e)
    where
      by-cells : {i : ℕ} (p : Plan) → Passes σ f → run m (from_blocks σ f) ≡ given i p
          → Came i m (row_cells (code_settings σ) f.fill p.overlay p.segments (blank l)) (λ d. done (drawn_by p d)) (given n r) → Planned f r
      by-cells p h k (came {a = d} c last) = let same : drawn_by p d ≡ r = cc in planned h k (ap (λ (r : Row). r.format) (sym same))

      by-plan : Came 0 m (plan σ f) (from_plan σ f.fill l) (given n r) → Planned f r
      by-plan (came {i} {a = p} c last) =
          let good = settings-passed 0 m σ (λ _. from_state σ f) c in
          let range = passed 0 m 3 (in_range f) _ good.1 in
          let lined = passed 0 m 4 (ltb 0 f.left) _ range.1 in
          by-cells p (record { settings = good.0; range = range.0; lined = lined.0 }) lined.1 (came-by i m _ _ last)

  pub row-passes : (l : ℕ) (f : Fields) {n : ℕ} {r : Row} → run m (row σ (state_of l f)) ≡ given n r → Passes σ f
  row-passes l f e = by (row-planned l f e)
    where
      by : {f : Fields} {r : Row} → Planned f r → Passes σ f
      by (planned h k e) = h

  -- the format of an accepted row whose block redefines nothing
  module _ (number left : ℕ) (c : Cursor) (fill : FillMode) (t : RowFormat) (a x : ℕ)
      (plain : null (redefinition_of (run m (row_block_at σ.linear (at a x)))) ≡ true) where
    abbrev formatted : RowBlock → Reading BackgroundRow
    formatted b = redefined σ.linear b.redefinition t >>= λ u. done (record { block = b; format = u })

    null-format : (i : ℕ) (b : RowBlock) {j : ℕ} {g : BackgroundRow} → null b.redefinition ≡ true → run_from i m (formatted b) ≡ given j g → g.format ≡ t
    unfolding redefined run_from ◌>>=◌
    null-format i b {g = g} h e =
        let k : given i (record { block = b; format = t }) ≡ given _ g = rw h at e in
        let same : record { block = b; format = t } ≡ g = cc in
        ap (λ (g : BackgroundRow). g.format) (sym same)

    block-format : {i : ℕ} {g : BackgroundRow} → run m (background_block σ.linear (at a x) t) ≡ given i g → g.format ≡ t
    unfolding background_block
    block-format {i} {g} e = by (came-by 0 m (row_block_at σ.linear (at a x)) formatted e)
      where
        by : Came 0 m (row_block_at σ.linear (at a x)) formatted (given i g) → g.format ≡ t
        by (came {i = k} {a = b} e last) = null-format k b (rw e at plain) last

    ground-format : {i : ℕ} {g : BackgroundRow} → run m (background_row σ (plain_fields number left c fill t a x)) ≡ given i g → g.format ≡ t
    unfolding background_row run_from
    ground-format {i} {g} e = by (came-by 0 m (background_block σ.linear (at a x) t) _ e)
      where
        by : Came 0 m (background_block σ.linear (at a x) t) (widths_of σ (at a x)) (given i g) → g.format ≡ t
        by (came {i = k} {a = h} e last) =
            let nine = passed-of k m 9 (at a x) (all_fit h.block.segments) _ last in
            let ten = passed-of k m 10 (at a x) (leb (total σ.hidden h.block.segments) 132) (λ _. done h) nine.1 in
            let same : h ≡ g = cc ten.1 in
            ap (λ (g : BackgroundRow). g.format) (sym same) ∙ block-format e

    plan-format : {i : ℕ} {p : Plan} → run m (from_blocks σ (plain_fields number left c fill t a x)) ≡ given i p → p.format ≡ t
    unfolding due_window overlaid edges_fit run_from ◌>>=◌
    plan-format {i} {p} e = by (came-by 0 m (background_row σ (plain_fields number left c fill t a x)) (λ g. done (plan_of g)) e)
      where
        plan_of : BackgroundRow → Plan
        plan_of g = Rules.planned (plain_fields number left c fill t a x) g (record { overlay = no_overlay; window = None })

        by : Came 0 m (background_row σ (plain_fields number left c fill t a x)) (λ g. done (plan_of g)) (given i p) → p.format ≡ t
        by (came {a = g} e last) = let same : plan_of g ≡ p = cc in ap (λ (p : Plan). p.format) (sym same) ∙ ground-format e

    pub row-format : (l : ℕ) {n : ℕ} {r : Row} → run m (row σ (state_of l (plain_fields number left c fill t a x))) ≡ given n r → r.format ≡ t
    row-format l e = by (row-planned l _ e)
      where
        by : {r : Row} → Planned (plain_fields number left c fill t a x) r → r.format ≡ t
        by (planned h k e) = e ∙ plan-format k
