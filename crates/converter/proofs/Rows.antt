-- A start and a row of a segmented list and of its linear one: the same state and the same row, whose pointers stand.
use Rattle.std.proofs.Common.{Option, Some, None}
use mathlib.Core.Path.{◌≡◌, refl, sym}
use mathlib.Core.Bool.{Bool, true, false, not, ◌&&◌}
use mathlib.Core.List.{List}
use Prim.Native.Nat.{ℕ, ◌+◌, ◌-◌, ◌<◌}
use lib.Dec.{ltb, leb}
use borrow.Author.Tests.{not-true}
use Rattle.memory.specs.Word.{when◌then◌else◌}
use Rattle.memory.specs.Address.{pointer, null}
use Rattle.memory.proofs.ReadBounds.{Words}
use Rattle.settings.specs.declared.PointerWords.{PointerWords}
use Rattle.settings.specs.declared.Settings.{Settings}
use Rattle.settings.specs.Timing.{lines_for_rows}
use Rattle.blocks.specs.declared.MainBlock.{MainBlock}
use Rattle.blocks.specs.RowBlock.{row_block_at, window_row_at}
use Rattle.windows.specs.Window.{first_window}
use Rattle.state.specs.declared.Fields.{Fields}
use Rattle.state.specs.declared.State.{State}
use Rattle.state.specs.State.{in_range}
use Rattle.layout.specs.Layout.{total, all_fit, edges_fit}
use Rattle.layout.specs.Overlay.{Overlaid, window_row, overlaid}
use Rattle.background.specs.Background.{background_block, background_row}
use Rattle.plan.specs.Plan.{Plan, next_fields, from_state}
use Rattle.codes.specs.Codes.{Drawing, blank}
use Rattle.windows.specs.declared.Window.{Window}
use Rattle.start.specs.Top.{registered, enabled, of_window, top_block}
use Rattle.start.specs.Start.{first_fields, window_start}
use Rattle.row.specs.Row.{Row, drawn_by}
use Rattle.holding.proofs.Holds.{Each}
use Rattle.converter.specs.Walk.{points_at}
use Rattle.converter.specs.Below.{row_below}
use Rattle.converter.specs.Converter.{turned_register, turned_settings}
use Rattle.converter.proofs.Alike.{Alike, dones, bind, bind-same, check-of-then, check-then, if-alike}
use Rattle.converter.proofs.Pointers.{turned-pointer, even, small, Stands, Near, first}
use Rattle.converter.proofs.Blocks.{Pointed, Linked, WindowStands, Gives, block-alike, redefined-alike, main-alike, window-alike, due-alike}
use Rattle.converter.proofs.Cells.{Drawn, OverlayStands, cells-alike, blank-drawn}

-- the same settings, segmented
abbrev pub segmented : Settings → Settings
segmented σ = record {
  linear = false;
  hidden = σ.hidden;
  interlace = σ.interlace;
  cursor = σ.cursor;
  flag = σ.flag;
  top = σ.top;
  tow = σ.tow;
  vsw = σ.vsw;
  vsd = σ.vsd;
  val = σ.val;
  vtot = σ.vtot;
  hsync = σ.hsync;
  hsd = σ.hsd;
  htc = σ.htc;
  htd = σ.htd;
  edition = σ.edition;
}

-- a register that is turned points where it did
register-same : (w : PointerWords) → registered false w ≡ registered true (turned_register w)
register-same w = sym (turned-pointer 0 w.first w.second)

register-begins : (w : PointerWords) → (registered false w).from ≡ 0
unfolding pointer
register-begins w = if-same (null (registered false w))
  where
    if-same : (b : Bool) → ◌≡◌ {A = ℕ} (when b then 0 else 0) 0
    if-same true = refl
    if-same false = refl

module _ (m : List ℕ) (b : Words m) where
  -- the three pointers of a state
  pub record Standing (f : Fields) : Type 0 where
    pub next : Stands m b f.next
    pub window : WindowStands m b f.window

  -- ---- the start ----
  -- the pointer that a register holds, in use
  register-near : (c : ℕ) (w : PointerWords) → w.second < 65536 → null (registered false w) ≡ false
      → Near m b (registered false w).address c (registered false w) (registered false w)
  unfolding points_at
  register-near c w l n =
      first m b (registered false w).address c (registered false w) n (rw (register-begins w)) (even 0 w.first w.second) (small 0 w.first w.second l)

  pub top-alike : (c : ℕ) (w : PointerWords) → w.second < 65536
      → Gives m b (registered false w).address (λ x. Stands m b x.rows) c (top_block false w) (top_block true (turned_register w))
  unfolding top_block
  top-alike c w l =
      rw (← register-same w)
      (let held = (registered false w).address in
      check-then held m 6 (not (null (registered false w))) λ _ e.
      bind-same held m (main-alike m b held c (registered false w) (register-near c w l (not-true (null (registered false w)) e))) λ n x _ s.
      check-then held m 14 (not (enabled x && of_window x)) λ _ _. dones (record { equal = refl; holds = s }))

  pub start-alike : (c latch : ℕ) (σ : Settings) (x : MainBlock) → σ.tow.second < 65536 → Stands m b x.rows
      → Gives m b (registered false σ.tow).address (λ s. Standing s.fields) c (window_start latch (segmented σ) x) (window_start latch (turned_settings σ) x)
  unfolding window_start first_window first_fields turned_settings lines_for_rows
  start-alike c latch σ x l s =
      rw (← register-same σ.tow)
      (let held = (registered false σ.tow).address in
      bind-same held m (window-alike m b held c 0 0 (registered false σ.tow) (register-near c σ.tow l)) λ n w _ h.
      dones (record { equal = refl; holds = record { next = s; window = h } }))

  module _ (σ : Settings) where
    -- ---- a row, in which no register is in use ----
    record Shown (o : Overlaid) : Type 0 where
      overlay : OverlayStands m b o.overlay
      window : WindowStands m b o.window

    overlaid-alike : (c row : ℕ) (w : Option Window) → WindowStands m b w
        → Gives m b 0 Shown c (overlaid (segmented σ) row w) (overlaid (turned_settings σ) row w)
    unfolding overlaid window_row window_row_at turned_settings
    overlaid-alike c row None s = dones (record { equal = refl; holds = record { overlay = tt; window = tt } })
    overlaid-alike c row (Some w) s =
        if-alike 0 m (leb w.block.top row && leb row w.block.bottom)
        (λ _. bind-same 0 m (block-alike m b 0 c false w.rows s.1) λ n x _ h.
        check-of-then 0 m 9 w.rows (all_fit x.segments) λ _ _.
        check-then 0 m 11 (leb (total σ.hidden x.segments) (w.block.right + 1 - w.block.left)) λ _ _.
        dones (record { equal = refl; holds = record { overlay = h.segments; window = (s.0, h.link) } }))
        λ _. dones (record { equal = refl; holds = record { overlay = tt; window = s } })

    background-alike : (c : ℕ) (f : Fields) → Stands m b f.next
        → Gives m b 0 (λ g. Linked m b g.block) c (background_row (segmented σ) f) (background_row (turned_settings σ) f)
    unfolding background_row background_block row_block_at turned_settings
    background-alike c f s =
        bind-same 0 m {P = λ g. Linked m b g.block}
        (bind-same 0 m (block-alike m b 0 c true f.next s) λ n x _ h.
        bind-same 0 m (redefined-alike m b 0 n x.redefinition f.format h.redefinition) λ i t _ _. dones (record { equal = refl; holds = h }))
        λ n g _ h.
        check-of-then 0 m 9 f.next (all_fit g.block.segments) λ _ _.
        check-of-then 0 m 10 f.next (leb (total σ.hidden g.block.segments) 132) λ _ _. dones (record { equal = refl; holds = h })

    -- what a row is drawn from, and the next state
    record Planned (p : Plan) : Type 0 where
      segments : Each (Pointed m b) p.segments
      overlay : OverlayStands m b p.overlay
      next : Standing p.next

    plan-alike : (c : ℕ) (f : Fields) → Standing f → Gives m b 0 Planned c (from_state (segmented σ) f) (from_state (turned_settings σ) f)
    unfolding next_fields turned_settings
    plan-alike c f s =
        check-then 0 m 3 (in_range f) λ _ _.
        check-then 0 m 4 (ltb 0 f.left) λ _ _.
        bind-same 0 m (due-alike m b 0 c f.row f.window s.window) λ n w _ hw.
        bind-same 0 m (background-alike n f s.next) λ i g _ hg.
        bind-same 0 m (overlaid-alike i f.row w hw) λ j o _ ho.
        check-then 0 m 12 (edges_fit σ.hidden o.overlay g.block.segments) λ _ _.
        dones (record {
          equal = refl;
          holds = record { segments = hg.segments; overlay = ho.overlay; next = record { next = hg.link; window = ho.window } };
        })

    -- rows that come of one plan, and are drawn the same
    pub data RowDrawn : ℕ → Row → Row → Type 0 where
      row_drawn : {c : ℕ} {d e : Drawing} (p : Plan) → Drawn m b 0 c d e → Standing p.next → RowDrawn c (drawn_by p d) (drawn_by p e)

    pub row-alike : (c : ℕ) (s : State) → Standing s.fields → Alike 0 m RowDrawn c (row_below (segmented σ) s) (row_below (turned_settings σ) s)
    unfolding row_below turned_settings
    row-alike c s h =
        bind-same 0 m (plan-alike c s.fields h) λ n p _ k.
        bind 0 m (cells-alike m b 0 σ.hidden σ.flag s.fields.fill p.overlay p.segments n (blank s.latch) (blank s.latch) k.overlay k.segments (blank-drawn m b 0 n s.latch)) λ i d e _ r.
        dones (row_drawn p r k.next)
