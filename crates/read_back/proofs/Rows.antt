-- The state of a start, and the next state of a row from a state that fits its fields, fit their fields again; what a refusal of either
-- tells has 32 bits.
use Rattle.std.proofs.Common.{Option, Some, None}
use mathlib.Core.Path.{◌≡◌, refl}
use mathlib.Core.Bool.{Bool, true, false, not, ◌&&◌}
use mathlib.Core.List.{List}
use Prim.Native.Nat.{ℕ, ◌+◌, ◌-◌, ◌<◌, ◌≤◌}
use native.Mathlib.Omega.{arith}
use lib.Dec.{ltb, leb, lit≤}
use Rattle.memory.specs.Reading.{nobody, check}
use Rattle.memory.specs.Address.{null}
use Rattle.memory.proofs.ReadBounds.{Words}
use Rattle.settings.specs.declared.Interlace.{Interlace}
use Rattle.settings.specs.declared.Interlace.TheVariants.{Progressive, RepeatField, Video}
use Rattle.settings.specs.declared.Settings.{Settings}
use Rattle.settings.specs.Good.{good, check_settings}
use Rattle.settings.specs.Timing.{lines_in, lines_for_rows}
use Rattle.settings.proofs.GoodLaws.{ordered}
use Rattle.blocks.specs.RowBlock.{row_block_at, window_row_at}
use Rattle.windows.specs.Window.{first_window}
use Rattle.state.specs.declared.Fields.{Fields}
use Rattle.state.specs.declared.State.{State}
use Rattle.state.specs.State.{in_range}
use Rattle.state.proofs.StateLaws.{placed, lines-within}
use Rattle.layout.specs.Layout.{total, all_fit, edges_fit}
use Rattle.layout.specs.Overlay.{Overlaid, window_row, overlaid}
use Rattle.background.specs.Background.{BackgroundRow, background_block, background_row}
use Rattle.plan.specs.Plan.{Plan, next_fields, plan}
use Rattle.codes.specs.Codes.{blank}
use Rattle.windows.specs.declared.Window.{Window}
use Rattle.start.specs.Top.{registered, enabled, of_window, top_block}
use Rattle.start.specs.Start.{first_fields, window_start, start_from}
use Rattle.row.specs.Row.{code_settings, Row, row}
use Rattle.numbers.specs.Places.{any}
use Rattle.holding.proofs.Holds.{Each}
use Rattle.blame.proofs.Comes.{dones, refuses, bind, check-then, if-comes}
use Rattle.read_back.proofs.Small.{Small, SmallFault, pointer-small, Keeps}
use Rattle.read_back.proofs.Blocks.{Pointed, Linked, FormatFits, MainFits, HandFits, block-keeps, redefined-keeps, main-keeps, window-keeps, due-keeps}
use Rattle.read_back.proofs.Cells.{cells-keep}
use Rattle.holding.proofs.CellsHold.{EachOver}

-- the fields of a state, each with a number that it can have
pub record FieldsFit (f : Fields) : Type 0 where
  pub row : f.row ≤ any
  pub left : f.left ≤ 65535
  pub x : f.cursor.x ≤ 255
  pub y : f.cursor.y ≤ 255
  pub code : f.fill.code ≤ 255
  pub format : FormatFits f.format
  pub next : Small f.next
  pub window : HandFits f.window

pub record StateFits (s : State) : Type 0 where
  pub latch : s.latch < 65536
  pub fields : FieldsFit s.fields

pub record RowFits (r : Row) : Type 0 where
  pub latch : r.drawing.pen.latch < 65536
  pub next : FieldsFit r.next

-- settings whose top registers have 16-bit words
pub record TopsFit (σ : Settings) : Type 0 where
  pub top : σ.top.second < 65536
  pub tow : σ.tow.second < 65536

few-lines : (i : Interlace) (n : ℕ) → n ≤ 4095 → lines_in i n ≤ 65535
few-lines Progressive n h = omega arith
few-lines RepeatField n h = omega arith
few-lines Video n h = omega arith

lines_fit : (σ : Settings) → good σ ≡ true → lines_for_rows σ ≤ 65535
unfolding lines_for_rows
lines_fit σ g = let o = ordered σ g in few-lines σ.interlace (σ.val - σ.vsd) (omega (arith, o.val-vtot, o.vtot-range))

module _ (m : List ℕ) (b : Words m) where
  checked : {P : Unit {0} → Type 0} (n : ℕ) (t : Bool) → (t ≡ true → P tt) → Keeps m b P (check n t)
  checked n true h = dones (h refl)
  checked n false h = refuses (lit≤ tt, lit≤ tt)

  settings-keep : (σ : Settings) → Keeps m b (λ _. good σ ≡ true) (check_settings σ)
  unfolding check_settings
  settings-keep σ = check-then m SmallFault 2 nobody (good σ) (λ _. (lit≤ tt, lit≤ tt)) λ _ g. checked 17 σ.linear (λ _. g)

  -- ---- a start ----
  pub start-keeps : (latch : ℕ) (σ : Settings) → latch < 65536 → TopsFit σ → Keeps m b StateFits (start_from latch σ)
  unfolding start_from top_block window_start first_window first_fields
  start-keeps latch σ l h =
      let top = registered σ.linear σ.top in
      bind m SmallFault (settings-keep σ) λ _ g.
      bind m SmallFault {P = MainFits}
      (check-then m SmallFault 6 nobody (not (null top)) (λ _. (lit≤ tt, lit≤ tt)) λ _ _.
      bind m SmallFault (main-keeps m b σ.linear top (pointer-small σ.linear 0 _ _ (lit≤ tt) h.top)) λ k hk.
      check-then m SmallFault 14 nobody (not (enabled k && of_window k)) (λ _. (lit≤ tt, lit≤ tt)) λ _ _. dones hk) λ k hk.
      bind m SmallFault (window-keeps m b σ.linear 0 0 _ (lit≤ tt) (pointer-small σ.linear 0 _ _ (lit≤ tt) h.tow)) λ w hw.
      dones
      (record {
        latch = l;
        fields = record {
          row = lit≤ tt;
          left = lines_fit σ g;
          x = hk.x;
          y = hk.y;
          code = hk.code;
          format = record { lines = hk.lines; attributes = lit≤ tt; curs = lit≤ tt; cure = lit≤ tt };
          next = hk.rows;
          window = hw;
        };
      })

  -- ---- a row ----
  record Shown (o : Overlaid) : Type 0 where
    overlay : EachOver Pointed o.overlay
    window : HandFits o.window

  overlaid-keeps : (σ : Settings) (at : ℕ) (w : Option Window) → HandFits w → Keeps m b Shown (overlaid σ at w)
  unfolding overlaid window_row window_row_at
  overlaid-keeps σ at None h = dones (record { overlay = tt; window = tt })
  overlaid-keeps σ at (Some w) h =
      if-comes m SmallFault (leb w.block.top at && leb at w.block.bottom)
      (λ _. bind m SmallFault (block-keeps m b σ.linear false w.rows h.rows) λ k hk.
      check-then m SmallFault 9 w.rows (all_fit k.segments) (λ _. (lit≤ tt, h.rows.1)) λ _ _.
      check-then m SmallFault 11 nobody (leb (total σ.hidden k.segments) (w.block.right + 1 - w.block.left)) (λ _. (lit≤ tt, lit≤ tt)) λ _ _.
      dones
      (record {
        overlay = hk.segments;
        window = record {
          held = record { number = h.held.number; top = h.held.top; bottom = h.held.bottom; left = h.held.left; right = h.held.right };
          rows = hk.link;
          link = h.link;
        };
      }))
      λ _. dones (record { overlay = tt; window = h })

  record Backed (g : BackgroundRow) : Type 0 where
    block : Linked g.block
    format : FormatFits g.format

  background-keeps : (σ : Settings) (f : Fields) → FieldsFit f → Keeps m b Backed (background_row σ f)
  unfolding background_row background_block row_block_at
  background-keeps σ f h =
      bind m SmallFault {P = Backed}
      (bind m SmallFault (block-keeps m b σ.linear true f.next h.next) λ k hk.
      bind m SmallFault (redefined-keeps m b σ.linear k.redefinition f.format hk.redefinition h.format) λ t ht.
      dones (record { block = hk; format = ht })) λ g hg.
      check-then m SmallFault 9 f.next (all_fit g.block.segments) (λ _. (lit≤ tt, h.next.1)) λ _ _.
      check-then m SmallFault 10 f.next (leb (total σ.hidden g.block.segments) 132) (λ _. (lit≤ tt, h.next.1)) λ _ _. dones hg

  record Planned (p : Plan) : Type 0 where
    segments : Each Pointed p.segments
    overlay : EachOver Pointed p.overlay
    next : FieldsFit p.next

  plan-keeps : (σ : Settings) (f : Fields) → FieldsFit f → Keeps m b Planned (plan σ f)
  unfolding plan next_fields
  plan-keeps σ f h =
      bind m SmallFault (settings-keep σ) λ _ _.
      check-then m SmallFault 3 nobody (in_range f) (λ _. (lit≤ tt, lit≤ tt)) λ _ h₃.
      check-then m SmallFault 4 nobody (ltb 0 f.left) (λ _. (lit≤ tt, lit≤ tt)) λ _ _.
      bind m SmallFault (due-keeps m b σ.linear f.row f.window (placed f h₃) h.window) λ w hw.
      bind m SmallFault (background-keeps σ f h) λ g hg.
      bind m SmallFault (overlaid-keeps σ f.row w hw) λ o ho.
      check-then m SmallFault 12 nobody (edges_fit σ.hidden o.overlay g.block.segments) (λ _. (lit≤ tt, lit≤ tt)) λ _ _.
      dones
      (record {
        segments = hg.block.segments;
        overlay = ho.overlay;
        next = record {
          row = omega (arith, lines-within f h₃);
          left = omega (arith, h.left);
          x = h.x;
          y = h.y;
          code = h.code;
          format = hg.format;
          next = hg.block.link;
          window = ho.window;
        };
      })

  pub row_keeps : (σ : Settings) (s : State) → StateFits s → Keeps m b RowFits (row σ s)
  unfolding row
  row_keeps σ s h =
      bind m SmallFault (plan-keeps σ s.fields h.fields) λ p k.
      bind m SmallFault
      (cells-keep m b (code_settings σ) s.fields.fill p.overlay p.segments (blank s.latch) k.overlay k.segments (record { latch = h.latch; next = (lit≤ tt, lit≤ tt) })) λ d hd.
      dones (record { latch = hd.latch; next = k.next })
