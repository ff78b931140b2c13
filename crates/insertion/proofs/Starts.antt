-- A start without a window: its state has the next row block that M0,M1 give, and nothing else of it depends on these two words.
use mathlib.Core.Path.{◌≡◌}
use mathlib.Core.Bool.{Bool, true, false, not, ◌&&◌}
use mathlib.Core.List.{List}
use Prim.Native.Nat.{ℕ}
use borrow.Author.Tests.{not-true}
use Rattle.memory.specs.Word.{bit}
use Rattle.memory.specs.declared.Pointer.{Pointer}
use Rattle.memory.specs.Reading.{Reading, done, ◌>>=◌, check, given, run}
use Rattle.memory.specs.Address.{pointer, null, next_word}
use Rattle.settings.specs.declared.Settings.{Settings}
use Rattle.settings.proofs.CheckLaws.{Passing, passing-done}
use Rattle.settings.specs.Timing.{lines_for_rows}
use Rattle.blocks.specs.declared.Cursor.{Cursor}
use Rattle.blocks.specs.declared.FillMode.{FillMode}
use Rattle.blocks.specs.declared.RowFormat.{RowFormat}
use Rattle.blocks.specs.declared.MainBlock.{MainBlock}
use Rattle.blocks.specs.Main.{main_block, main_block_at}
use Rattle.windows.specs.Window.{window_at, first_window}
use Rattle.state.specs.declared.State.{State}
use Rattle.state.specs.State.{state_of}
use Rattle.start.specs.Top.{registered, enabled, of_window, top_block}
use Rattle.start.specs.Start.{first_format, first_fields, window_start, main_start, start_from}
use Rattle.insertion.specs.Followed.{main_of}
use Rattle.insertion.proofs.Near.{Near, dones, bind-same, Opens, open-bind, as-opens, FromThird, from_third, words_open}
use Rattle.insertion.proofs.Rows.{plain_fields}
use Rattle.insertion.proofs.Accepted.{Came, came, came-by, passed, settings-passed}

-- the same start with two first row blocks
pub data StartAlike (latch : ℕ) (p q : Pointer) : State → State → Type 0 where
  starts : (left : ℕ) (c : Cursor) (fill : FillMode) (t : RowFormat)
      → StartAlike latch p q (state_of latch (plain_fields 0 left c fill t p.address p.from)) (state_of latch (plain_fields 0 left c fill t q.address q.from))

data MainAlike (p q : Pointer) : MainBlock → MainBlock → Type 0 where
  mains : (c : Cursor) (fill : FillMode) (m4 lines : ℕ)
      → MainAlike p q (record { rows = p; cursor = c; fill = fill; m4 = m4; lines = lines }) (record { rows = q; cursor = c; fill = fill; m4 = m4; lines = lines })

block-alike : (linear : Bool) (a w₁ w₂ v₁ v₂ : ℕ) (us vs : List ℕ) → FromThird w₁ w₂ v₁ v₂ us vs
    → Near (MainAlike (pointer linear a w₁ w₂) (pointer linear a v₁ v₂)) (done (main_block linear a us)) (done (main_block linear a vs))
unfolding main_block
block-alike linear a w₁ w₂ v₁ v₂ us vs (from_third rest) = dones (mains _ _ _ _)

abbrev scrolls : MainBlock → Reading MainBlock
scrolls m = check 14 (not (enabled m && of_window m)) >>= λ _. done m

scroll-alike : {p q : Pointer} (b d : MainBlock) → MainAlike p q b d → Near (MainAlike p q) (scrolls b) (scrolls d)
scroll-alike b d (mains c fill m4 lines) = bind-same (check 14 (not (bit 14 m4 && bit 12 m4))) λ _. dones (mains c fill m4 lines)

module _ (latch : ℕ) (σ : Settings) (alone : null (registered σ.linear σ.tow) ≡ true) where
  state-alike : {p q : Pointer} (b d : MainBlock) → MainAlike p q b d → Near (StartAlike latch p q) (window_start latch σ b) (window_start latch σ d)
  unfolding window_start first_window window_at first_fields ◌>>=◌
  state-alike b d (mains c fill m4 lines) = rw alone (dones (starts (lines_for_rows σ) c fill (first_format lines)))

  -- checks 2, 17 and 6
  pub record StartPasses : Type 0 where
    pub settings : Passing σ
    pub top : null (registered σ.linear σ.top) ≡ false

  pub start-opens : StartPasses
      → let a = main_of σ in
      Opens a (next_word σ.linear a) (λ w₁ w₂ v₁ v₂. StartAlike latch (pointer σ.linear a w₁ w₂) (pointer σ.linear a v₁ v₂))
      (start_from latch σ) (start_from latch σ)
  unfolding start_from top_block main_block_at ◌>>=◌
  start-opens h =
      rw (passing-done σ h.settings, h.top)
      (open-bind (open-bind (open-bind (as-opens (words_open σ.linear 5 (main_of σ) _ _)) (block-alike σ.linear (main_of σ))) λ w₁ w₂ v₁ v₂. scroll-alike)
      λ w₁ w₂ v₁ v₂. state-alike)

  pub start-passes : (m : List ℕ) {n : ℕ} {s : State} → run m (start_from latch σ) ≡ given n s → StartPasses
  unfolding start_from top_block
  start-passes m {n} {s} e = by (came-by 0 m (top_block σ.linear σ.top) (window_start latch σ) settled.1)
    where
      settled : Passing σ × (run m (main_start latch σ) ≡ given n s)
      settled = settings-passed 0 m σ (λ _. main_start latch σ) e

      by : Came 0 m (top_block σ.linear σ.top) (window_start latch σ) (given n s) → StartPasses
      by (came e last) =
          record { settings = settled.0; top = not-true _ (passed 0 m 6 (not (null (registered σ.linear σ.top))) _ e).0 }
