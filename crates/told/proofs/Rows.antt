-- A start's state has pointers that stand, and a row keeps them: its next state's stand too. Neither asks for a word but through these.
use Rattle.std.proofs.Common.{Option, Some, None}
use mathlib.Core.Path.{refl}
use mathlib.Core.Bool.{true, false, not, ◌&&◌}
use mathlib.Core.List.{List}
use Prim.Native.Nat.{ℕ, ◌+◌, ◌-◌}
use lib.Dec.{ltb, leb}
use Rattle.memory.specs.Reading.{nobody}
use Rattle.memory.specs.Address.{null}
use Rattle.settings.specs.declared.Settings.{Settings}
use Rattle.settings.specs.Good.{good, check_settings}
use Rattle.windows.specs.Window.{first_window}
use Rattle.blocks.specs.RowBlock.{row_block_at, window_row_at}
use Rattle.state.specs.declared.Fields.{Fields}
use Rattle.state.specs.declared.State.{State}
use Rattle.state.specs.State.{in_range}
use Rattle.layout.specs.Layout.{total, all_fit, edges_fit}
use Rattle.layout.specs.Overlay.{Overlaid, window_row, overlaid}
use Rattle.background.specs.Background.{background_block, background_row}
use Rattle.plan.specs.Plan.{Plan, next_fields, plan}
use Rattle.codes.specs.Codes.{blank}
use Rattle.windows.specs.declared.Window.{Window}
use Rattle.start.specs.Top.{registered, enabled, of_window, top_block}
use Rattle.start.specs.Start.{first_fields, window_start, start_from}
use Rattle.row.specs.Row.{row}
use Rattle.told.specs.Told.{by_top, by_tow}
use Rattle.holding.proofs.Holds.{Each, dones, bind, check-holds, check-then, if-holds}
use Rattle.holding.proofs.CellsHold.{EachOver}
use Rattle.told.proofs.Tells.{not-true}
use Rattle.told.proofs.Pointers.{Stands, first}
use Rattle.told.proofs.Blocks.{Says, Pointed, Linked, WindowStands, block-tells, redefined-tells, main-tells, window-tells, due-tells}
use Rattle.told.proofs.Cells.{no-list, cells-tell}

module _ (σ : Settings) (m : List ℕ) where
  -- the checks on settings
  settings-tell : Says σ m (λ _. Unit {0}) (check_settings σ)
  unfolding check_settings
  settings-tell = check-then 2 nobody (good σ) (λ _. refl) λ _ _. check-holds 17 nobody σ.linear (λ _. refl) λ _. tt

  -- the three pointers of a state
  pub record Standing (f : Fields) : Type 0 where
    pub next : Stands σ m f.next
    pub window : WindowStands σ m f.window

  -- ---- the start ----
  top-tells : Says σ m (λ b. Stands σ m b.rows) (top_block σ.linear σ.top)
  unfolding top_block
  top-tells =
      let p = registered σ.linear σ.top in
      check-then 6 nobody (not (null p)) (λ _. refl) λ _ e.
      bind (main-tells σ m p (first σ m p (λ _. by_top) (not-true (null p) e))) λ b h.
      check-then 14 nobody (not (enabled b && of_window b)) (λ _. refl) λ _ _. dones h

  pub start-tells : (latch : ℕ) → Says σ m (λ s. Standing s.fields) (start_from latch σ)
  unfolding start_from window_start first_window first_fields
  start-tells latch =
      bind settings-tell λ _ _.
      bind top-tells λ b s.
      bind (window-tells σ m 0 0 (registered σ.linear σ.tow) (λ _. by_tow)) λ w h. dones (record { next = s; window = h })

  -- ---- a row ----
  record Shown (o : Overlaid) : Type 0 where
    overlay : EachOver (Pointed σ m) o.overlay
    window : WindowStands σ m o.window

  overlaid-tells : (row : ℕ) (w : Option Window) → WindowStands σ m w → Says σ m Shown (overlaid σ row w)
  unfolding overlaid window_row window_row_at
  overlaid-tells row None s = dones (record { overlay = tt; window = tt })
  overlaid-tells row (Some w) s =
      if-holds (leb w.block.top row && leb row w.block.bottom)
      (λ _. bind (block-tells σ m false w.rows s.1) λ b h.
      check-then 9 w.rows (all_fit b.segments) (λ _. refl) λ _ _.
      check-then 11 nobody (leb (total σ.hidden b.segments) (w.block.right + 1 - w.block.left)) (λ _. refl) λ _ _.
      dones (record { overlay = h.segments; window = (s.0, h.link) }))
      λ _. dones (record { overlay = tt; window = s })

  background-tells : (f : Fields) → Stands σ m f.next → Says σ m (λ g. Linked σ m g.block) (background_row σ f)
  unfolding background_row background_block row_block_at
  background-tells f s =
      bind (bind (block-tells σ m true f.next s) λ b h. bind (redefined-tells σ m b.redefinition f.format h.redefinition) λ t _. dones h) λ g h.
      check-then 9 f.next (all_fit g.block.segments) (λ _. refl) λ _ _.
      check-then 10 f.next (leb (total σ.hidden g.block.segments) 132) (λ _. refl) λ _ _. dones h

  -- what a row is drawn from, and the next state
  record Planned (p : Plan) : Type 0 where
    segments : Each (Pointed σ m) p.segments
    overlay : EachOver (Pointed σ m) p.overlay
    next : Standing p.next

  plan-tells : (f : Fields) → Standing f → Says σ m Planned (plan σ f)
  unfolding plan next_fields
  plan-tells f s =
      bind settings-tell λ _ _.
      check-then 3 nobody (in_range f) (λ _. refl) λ _ _.
      check-then 4 nobody (ltb 0 f.left) (λ _. refl) λ _ _.
      bind (due-tells σ m f.row f.window s.window) λ w hw.
      bind (background-tells f s.next) λ g hg.
      bind (overlaid-tells f.row w hw) λ o ho.
      check-then 12 nobody (edges_fit σ.hidden o.overlay g.block.segments) (λ _. refl) λ _ _.
      dones (record { segments = hg.segments; overlay = ho.overlay; next = record { next = hg.link; window = ho.window } })

  pub row-tells : (s : State) → Standing s.fields → Says σ m (λ r. Standing r.next) (row σ s)
  unfolding row
  row-tells s h =
      bind (plan-tells s.fields h) λ p k.
      bind (cells-tell σ m s.fields.fill p.overlay p.segments (blank s.latch) k.overlay k.segments (no-list σ m)) λ d _. dones k.next
