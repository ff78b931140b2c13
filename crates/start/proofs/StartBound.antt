-- A start reads at most 13 words, the main block's 7 and the first window's 6, and its state is at row 0 with the start latch.
use mathlib.Core.Path.{◌≡◌, refl}
use mathlib.Core.Bool.{Bool, not, ◌&&◌}
use Prim.Native.Nat.{ℕ, ◌≤◌, ◌<◌}
use native.Mathlib.Omega.{arith}
use lib.Dec.{lit≤}
use Rattle.memory.specs.Address.{null}
use Rattle.memory.specs.Reading.{one_pointer}
use Rattle.memory.proofs.ReadBounds.{Reads, dones, bind, check-reads, words-read}
use Rattle.memory.proofs.Roles.{as-reads}
use Rattle.settings.specs.declared.PointerWords.{PointerWords}
use Rattle.settings.specs.declared.Settings.{Settings}
use Rattle.settings.proofs.CheckLaws.{settings-read}
use Rattle.blocks.specs.Main.{main_block, main_block_at}
use Rattle.windows.specs.Window.{first_window}
use Rattle.windows.proofs.WindowBounds.{Placed, window-reads}
use Rattle.state.specs.declared.State.{State}
use Rattle.start.specs.Top.{registered, enabled, of_window, top_block}
use Rattle.start.specs.Start.{first_fields, window_start, start_from}

pub top-reads : (linear : Bool) (top : PointerWords) → Reads (λ m. (1 ≤ m.lines × m.lines ≤ 32) × m.fill.code < 256) 7 (top_block linear top)
unfolding top_block main_block_at main_block
top-reads linear top =
    bind {n = 0} {k = 7} (lit≤ tt) (check-reads 6 (not (null (registered linear top)))) λ _ _.
    bind {n = 7} {k = 0} (lit≤ tt) (bind {n = 7} {k = 0} (lit≤ tt) (as-reads one_pointer (words-read linear 7 (registered linear top))) λ b _. dones ((omega arith, omega arith), omega arith)) λ m h.
    bind {n = 0} {k = 0} (lit≤ tt) (check-reads 14 (not (enabled m && of_window m))) λ _ _. dones h

-- the state of a start
pub record Fresh (latch : ℕ) (s : State) : Type 0 where
  pub row : s.fields.row ≡ 0
  pub latched : s.latch ≡ latch
  pub fill : s.fields.fill.code < 256
  pub placed : Placed s.fields.window

pub start-reads : (latch : ℕ) (σ : Settings) → Reads (Fresh latch) 13 (start_from latch σ)
unfolding start_from window_start first_window first_fields
start-reads latch σ =
    bind {n = 0} {k = 13} (lit≤ tt) (settings-read σ) λ _ _.
    bind {n = 7} {k = 6} (lit≤ tt) (top-reads σ.linear σ.top) λ _ h.
    bind {n = 6} {k = 0} (lit≤ tt) (window-reads σ.linear 0 0 _ (lit≤ tt)) λ _ k. dones (record { row = refl; latched = refl; fill = h.1; placed = k.0 })
