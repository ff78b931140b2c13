-- A row without a window: what it draws depends on its latch, its block and the fill, and not on its number, its lines left, the words of its
-- block's link or where the pointer to the block begins.
use Rattle.std.proofs.Common.{None}
use mathlib.Core.Path.{◌≡◌, refl}
use mathlib.Core.Bool.{Bool, true, false}
use Prim.Native.Nat.{ℕ}
use lib.Dec.{eqb, ltb, leb}
use Rattle.memory.specs.declared.Pointer.{Pointer}
use Rattle.memory.specs.Reading.{Reading, done, ◌>>=◌, check, check_of}
use Rattle.memory.specs.Address.{nothing, pointer, next_word}
use Rattle.settings.specs.declared.Settings.{Settings}
use Rattle.settings.proofs.CheckLaws.{Passing, passing-done}
use Rattle.blocks.specs.declared.Cursor.{Cursor}
use Rattle.blocks.specs.declared.FillMode.{FillMode}
use Rattle.blocks.specs.declared.RowFormat.{RowFormat}
use Rattle.blocks.specs.RowBlock.{RowBlock, redefined}
use Rattle.windows.specs.Window.{due_window}
use Rattle.state.specs.declared.Fields.{Fields}
use Rattle.state.specs.State.{state_of, in_range}
use Rattle.layout.specs.Layout.{none, total, all_fit, edges_fit}
use Rattle.layout.specs.Overlay.{overlaid}
use Rattle.background.specs.Background.{BackgroundRow, background_block, background_row}
use Rattle.codes.specs.Codes.{Drawing, blank}
use Rattle.cells.specs.Cells.{row_cells}
use Rattle.plan.specs.Plan.{Plan, lines_taken, next_fields, planned, from_blocks, plan}
use Rattle.row.specs.Row.{code_settings, Row, from_plan, row}
use Rattle.insertion.proofs.Near.{Near, dones, bind, bind-same, check-near, weaken, Opens, open-bind, open-near, at}
use Rattle.insertion.proofs.Blocks.{BlockAlike, blocks, block-opens, block_null}

-- fields without a window, the next row block at the address a
abbrev pub plain_fields : (number left : ℕ) → Cursor → FillMode → RowFormat → (a from : ℕ) → Fields
plain_fields number left c fill t a from = record { row = number; left = left; cursor = c; fill = fill; format = t; next = at a from; window = None }

-- the same but for the number, the lines left and where the pointer begins
pub data Like : Fields → Fields → Type 0 where
  like : {n n' l l' : ℕ} {c : Cursor} {fill : FillMode} {t : RowFormat} {a x y : ℕ} → Like (plain_fields n l c fill t a x) (plain_fields n' l' c fill t a y)

-- what such a row comes to, of the format t, whose block has this link
abbrev pub row_of : Fields → RowFormat → Pointer → Drawing → Row
row_of f t link d = record { lines = lines_taken t f.left; format = t; next = next_fields f t link None; drawing = d }

pub data RowAlike (f g : Fields) (p q : Pointer) : Row → Row → Type 0 where
  rows : (t : RowFormat) (d : Drawing) → RowAlike f g p q (row_of f t p d) (row_of g t q d)

-- .. with one link
pub data RowsAlike (f g : Fields) : Row → Row → Type 0 where
  linked : {r s : Row} (p : Pointer) → RowAlike f g p p r s → RowsAlike f g r s

-- ---- from the block to the cells ----

data GroundAlike (p q : Pointer) : BackgroundRow → BackgroundRow → Type 0 where
  grounds : {b d : RowBlock} (t : RowFormat) → BlockAlike p q b d → GroundAlike p q (record { block = b; format = t }) (record { block = d; format = t })

data PlanAlike (f g : Fields) (p q : Pointer) : Plan → Plan → Type 0 where
  plans : {b d : RowBlock} (t : RowFormat) → BlockAlike p q b d
      → PlanAlike f g p q (planned f (record { block = b; format = t }) (record { overlay = none; window = None }))
      (planned g (record { block = d; format = t }) (record { overlay = none; window = None }))

module _ (σ : Settings) where
  abbrev format_of : RowFormat → RowBlock → Reading BackgroundRow
  format_of t b = redefined σ.linear b.redefinition t >>= λ u. done (record { block = b; format = u })

  abbrev pub widths_of : Pointer → BackgroundRow → Reading BackgroundRow
  widths_of p g = check_of 9 p (all_fit g.block.segments) >>= λ _. check_of 10 p (leb (total σ.hidden g.block.segments) 132) >>= λ _. done g

  abbrev plan_of : Fields → BackgroundRow → Reading Plan
  plan_of f g = check 12 (edges_fit σ.hidden none g.block.segments) >>= λ _. done (planned f g (record { overlay = none; window = None }))

module _ (σ : Settings) {p q : Pointer} where
  formats : (t : RowFormat) (b d : RowBlock) → BlockAlike p q b d → Near (GroundAlike p q) (format_of σ t b) (format_of σ t d)
  formats t b d (blocks re gs) = bind-same (redefined σ.linear re t) λ u. dones (grounds u (blocks re gs))

  widths : (u v : Pointer) (g h : BackgroundRow) → GroundAlike p q g h → Near (GroundAlike p q) (widths_of σ u g) (widths_of σ v h)
  widths u v g h (grounds t (blocks re gs)) =
      bind (check-near 9 u v (all_fit gs)) λ _ _ _.
      bind (check-near 10 u v (leb (total σ.hidden gs) 132)) λ _ _ _. dones (grounds t (blocks re gs))

  edges : (f f' : Fields) (g h : BackgroundRow) → GroundAlike p q g h → Near (PlanAlike f f' p q) (plan_of σ f g) (plan_of σ f' h)
  edges f f' g h (grounds t (blocks re gs)) = bind-same (check 12 (edges_fit σ.hidden none gs)) λ _. dones (plans t (blocks re gs))

  cells : (fill : FillMode) (l : ℕ) (f f' : Fields) (g h : Plan) → PlanAlike f f' p q g h
      → Near (RowAlike f f' p q) (from_plan σ fill l g) (from_plan σ fill l h)
  cells fill l f f' g h (plans t (blocks re gs)) = bind-same (row_cells (code_settings σ) fill none gs (blank l)) λ d. dones (rows t d)

-- ---- the row ----

-- what checks 2, 17, 3 and 4 ask
pub record Passes (σ : Settings) (f : Fields) : Type 0 where
  pub settings : Passing σ
  pub range : in_range f ≡ true
  pub lined : ltb 0 f.left ≡ true

abbrev from_state : Settings → ℕ → Fields → Reading Row
from_state σ l f = from_blocks σ f >>= from_plan σ f.fill l

pub row-checked : (σ : Settings) (l : ℕ) (f : Fields) → Passes σ f → row σ (state_of l f) ≡ from_state σ l f
unfolding row plan ◌>>=◌
row-checked σ l f h = rw (passing-done σ h.settings, h.range, h.lined)

module _ (σ : Settings) (l : ℕ) where
  pub row_opens : {f g : Fields} → Like f g → Passes σ f → Passes σ g → eqb f.next.address 0 ≡ false
      → let a = f.next.address in
      Opens a (next_word σ.linear a) (λ w₁ w₂ v₁ v₂. RowAlike f g (pointer σ.linear a w₁ w₂) (pointer σ.linear a v₁ v₂))
      (row σ (state_of l f)) (row σ (state_of l g))
  unfolding due_window overlaid background_block background_row ◌>>=◌
  row_opens {f} {g} (like {fill} {t} {a} {x} {y}) h k e =
      rw (row-checked σ l _ h, row-checked σ l _ k)
      (open-bind (open-bind (open-bind (open-bind (block-opens σ.linear a x y e) λ w₁ w₂ v₁ v₂. formats σ t)
      λ w₁ w₂ v₁ v₂. widths σ (at a x) (at a y)) λ w₁ w₂ v₁ v₂. edges σ f g) λ w₁ w₂ v₁ v₂. cells σ fill l f g)

  pub row-null : {f g : Fields} → Like f g → Passes σ f → Passes σ g → eqb f.next.address 0 ≡ true
      → Near (RowAlike f g nothing nothing) (row σ (state_of l f)) (row σ (state_of l g))
  unfolding due_window overlaid background_block background_row ◌>>=◌
  row-null {f} {g} (like {fill} {t} {a} {x} {y}) h k e =
      rw (row-checked σ l _ h, row-checked σ l _ k)
      (bind (bind (bind (bind (block_null σ.linear a x y e) (formats σ t)) (widths σ (at a x) (at a y))) (edges σ f g)) (cells σ fill l f g))

  -- on words that both find alike
  pub row_near : {f g : Fields} → Like f g → Passes σ f → Passes σ g → Near (RowsAlike f g) (row σ (state_of l f)) (row σ (state_of l g))
  row_near {f} {g} i h k = by-null (eqb f.next.address 0) refl
    where
      by-null : (b : Bool) → eqb f.next.address 0 ≡ b → Near (RowsAlike f g) (row σ (state_of l f)) (row σ (state_of l g))
      by-null false e = open-near (λ w v r s. linked _) (row_opens i h k e)
      by-null true e = weaken (λ r s. linked nothing) (row-null i h k e)
