-- "In cells of source 2 bits 31..24 hold the window's number along the chain, from 0; elsewhere 0." (02) Of a row's cells: one of
-- source 2 has the number of the window in hand, on one of its rows; any other has 0.
use Rattle.std.proofs.Common.{Option}
use mathlib.Core.Path.{◌≡◌, ap, ◌∙◌}
use mathlib.Core.Bool.{◌&&◌}
use mathlib.Core.List.{List}
use Prim.Native.Nat.{ℕ, zero, suc, ◌/◌, ◌%◌, ◌^◌, ◌<◌}
use native.Mathlib.Omega.{arith}
use lib.ListN.{get_or, set}
use lib.Dec.{eqb}
use lib.Bits.{bit_or, or_shr, or_mod, or_zero_r}
use Rattle.memory.proofs.Agree.{All, none, also}
use Rattle.memory.proofs.ReadBounds.{if-cases}
use Rattle.memory.proofs.Gives.{Gives, dones, bind, reads-give}
use Rattle.settings.specs.declared.Settings.{Settings}
use Rattle.state.specs.declared.Fields.{Fields}
use Rattle.state.specs.declared.State.{State}
use Rattle.layout.specs.Layout as Layout
use Rattle.layout.proofs.OverlayBounds.{OnRow, Shows}
use Rattle.plan.proofs.PlanBounds.{plan-reads}
use Rattle.windows.specs.declared.Window.{Window as WindowInHand}
use Rattle.codes.specs.Attribute.{Fill, Background, Window, source_number, window_number, source_of, window_number_of}
use Rattle.codes.specs.Codes.{blank}
use Rattle.codes.proofs.CellParts.{source-back, window-back}
use Rattle.codes.proofs.CodeCells.{Makes}
use Rattle.cells.proofs.CellSources.{WindowMakes, row-cells}
use Rattle.row.specs.Row.{code_settings, row, with_cursor}

abbrev pub Named : ℕ → Option WindowInHand → ℕ → Type 0
Named row w c = (source_of c ≡ 2 → OnRow row w (window_number_of c)) × ((source_of c ≡ 2 → ⊥) → window_number_of c ≡ 0)

module _ (row : ℕ) (w : Option WindowInHand) where
  fill-named : Makes (Named row w) Fill
  unfolding source_number window_number
  fill-named a code h = (λ e. absurd (omega (arith, source-back Fill a code h)), λ _. window-back Fill a code h)

  back-named : Makes (Named row w) Background
  unfolding source_number window_number
  back-named a code h = (λ e. absurd (omega (arith, source-back Background a code h)), λ _. window-back Background a code h)

  window-named : (number : ℕ) → OnRow row w number → Makes (Named row w) (Window number)
  unfolding source_number window_number
  window-named number on a code h = (
    λ _. record { window = on.window; there = on.there; named = window-back (Window number) a code h ∙ on.named; begun = on.begun; going = on.going },
    λ k. absurd (k (source-back (Window number) a code h)),
  )

  window-makes : (o : Layout.Overlay) → Shows row w o → WindowMakes (Named row w) o
  window-makes Layout.none h = tt
  window-makes (Layout.over number first end ws) h = window-named number h

  -- the cursor's mark is another bit
  marked : (c : ℕ) → Named row w c → Named row w (bit_or c (2 ^ 22))
  marked c h =
      let source : source_of (bit_or c (2 ^ 22)) ≡ source_of c = ap (λ (n : ℕ). n % 4) (or_shr c (2 ^ 22) 20) ∙ or_mod (c / 2 ^ 20) 4 2 ∙ or_zero_r _ in
      let number : window_number_of (bit_or c (2 ^ 22)) ≡ window_number_of c = or_shr c (2 ^ 22) 24 ∙ or_zero_r _ in
      rw (source, number) h

set_all : {P : ℕ → Type 0} (f : ℕ → ℕ) → ((c : ℕ) → P c → P (f c)) → {cs : List ℕ} (i : ℕ) → All P cs → All P (set cs i (f (get_or cs i 0)))
set_all f k i none = none
set_all f k zero (also {x} h hs) = also (k x h) hs
set_all f k (suc i) (also h hs) = also h (set_all f k i hs)

pub cursor-named : (σ : Settings) (f : Fields) (row : ℕ) (w : Option WindowInHand) (cs : List ℕ) → All (Named row w) cs → All (Named row w) (with_cursor σ f cs)
unfolding with_cursor
cursor-named σ f row w cs h =
    if-cases (All (Named row w)) (σ.cursor && eqb f.cursor.y f.row) (λ _. set_all (λ c. bit_or c (2 ^ 22)) (marked row w) f.cursor.x h) (λ _. h)

pub row_named : (σ : Settings) (s : State) → s.fields.fill.code < 256
    → Gives (λ r. All (Named s.fields.row r.next.window) r.drawing.cells) (row σ s)
unfolding row
row_named σ s l =
    bind (reads-give (plan-reads σ s.fields)) λ p hp.
    let at = s.fields.row in
    let w = p.next.window in
    bind
    (row-cells (Named at w) (code_settings σ) s.fields.fill l (fill-named at w) (back-named at w) p.overlay (window-makes at w p.overlay hp.shows)
    p.segments (blank s.latch) none)
    λ d h. dones h
