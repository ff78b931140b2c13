-- How many lines are left, one or more within 4095 with the row number, does not matter to a row: its words, its refusal, its format and
-- its cells are the same; its lines and its next state differ.
use mathlib.Core.Path.{◌≡◌, sym, ◌∙◌}
use mathlib.Core.Bool.{Bool}
use mathlib.Core.List.{List}
use Prim.Native.Nat.{ℕ, ◌+◌, ◌<◌, ◌≤◌}
use borrow.Author.Tests.{le-leb, lt-ltb}
use Rattle.memory.specs.Reading.{Reading, ◌>>◌, check}
use Rattle.memory.proofs.Related.{Rel, dones, bind, bind-same}
use Rattle.settings.specs.declared.Settings.{Settings}
use Rattle.settings.specs.Good.{check_settings}
use Rattle.blocks.specs.declared.FillMode.{FillMode}
use Rattle.blocks.specs.declared.RowFormat.{RowFormat}
use Rattle.blocks.specs.declared.Segment.{Segment}
use Rattle.windows.specs.Window.{due_window}
use Rattle.state.specs.declared.Fields.{Fields}
use Rattle.state.specs.State.{state_of, in_range}
use Rattle.layout.specs.Layout.{Overlay, edges_fit}
use Rattle.layout.specs.Overlay.{overlaid}
use Rattle.background.specs.Background.{background_row}
use Rattle.plan.specs.Plan.{Plan, next_fields, plan}
use Rattle.codes.specs.Codes.{Drawing, blank}
use Rattle.cells.specs.Cells.{row_cells}
use Rattle.row.specs.Row.{code_settings, Row, from_plan, row}

-- the same fields with another count of lines left
abbrev pub with_left : ℕ → Fields → Fields
with_left n f = record { row = f.row; left = n; cursor = f.cursor; fill = f.fill; format = f.format; next = f.next; window = f.window }

-- plans, and rows, that are the same but for their lines and next fields
pub data PlanLike : Plan → Plan → Type 0 where
  plans : (i j : ℕ) (t : RowFormat) (gs : List Segment) (o : Overlay) (f g : Fields)
      → PlanLike (record { lines = i; format = t; segments = gs; overlay = o; next = f }) (record { lines = j; format = t; segments = gs; overlay = o; next = g })

pub data RowLike : Row → Row → Type 0 where
  rows : (i j : ℕ) (t : RowFormat) (f g : Fields) (d : Drawing)
      → RowLike (record { lines = i; format = t; next = f; drawing = d }) (record { lines = j; format = t; next = g; drawing = d })

module _ (σ : Settings) (f : Fields) (a b : ℕ) (some-a : 0 < a) (some-b : 0 < b) (fits-a : f.row + a ≤ 4095) (fits-b : f.row + b ≤ 4095) where
  in-range : in_range (with_left a f) ≡ in_range (with_left b f)
  unfolding in_range
  in-range = rw (le-leb (f.row + a) 4095 fits-a, le-leb (f.row + b) 4095 fits-b)

  -- a check that comes out the same
  checked : {A B : Type 0} {R : A → B → Type 0} (n : ℕ) {x y : Bool} → x ≡ y → {p : Reading A} {q : Reading B} → Rel R p q
      → Rel R (check n x >> p) (check n y >> q)
  checked {R} n {x} {y} e {p} {q} h = rw e (bind-same (check n y) λ _. h)

  plan-like : Rel PlanLike (plan σ (with_left a f)) (plan σ (with_left b f))
  unfolding plan background_row next_fields
  plan-like =
      bind-same (check_settings σ) λ _.
      checked 3 in-range
      (checked 4 (lt-ltb 0 a some-a ∙ sym (lt-ltb 0 b some-b))
      (bind-same (due_window σ.linear f.row f.window) λ w.
      bind-same (background_row σ f) λ g.
      bind-same (overlaid σ f.row w) λ o.
      bind-same (check 12 (edges_fit σ.hidden o.overlay g.block.segments)) λ _. dones (plans _ _ _ _ _ _ _)))

  from-plan : (fill : FillMode) (latch : ℕ) (p q : Plan) → PlanLike p q → Rel RowLike (from_plan σ fill latch p) (from_plan σ fill latch q)
  from-plan fill latch p q (plans i j t gs o g h) =
      bind-same (row_cells (code_settings σ) fill o gs (blank latch)) λ d. dones (rows i j t g h d)

  pub row-like : (latch : ℕ) → Rel RowLike (row σ (state_of latch (with_left a f))) (row σ (state_of latch (with_left b f)))
  unfolding row
  row-like latch = bind plan-like (from-plan f.fill latch)
