-- How many words the window on a row takes at most, and what holds of it.
use Rattle.std.proofs.Common.{Option, Some, None}
use mathlib.Core.Path.{◌≡◌, refl}
use mathlib.Core.Bool.{Bool, ◌&&◌}
use Prim.Native.Nat.{ℕ, ◌+◌, ◌-◌, ◌≤◌}
use native.Mathlib.Omega.{arith}
use lib.Dec.{leb}
use borrow.Author.Tests.{leb-true}
use Rattle.memory.proofs.ReadBounds.{Reads, dones, bind, check-reads, check-of-reads, if-reads, both}
use Rattle.settings.specs.declared.Settings.{Settings}
use Rattle.windows.specs.declared.Window.{Window}
use Rattle.blocks.proofs.BlockBounds.{Few, window-row-reads}
use Rattle.windows.proofs.WindowBounds.{Placed, After, ended, same}
use Rattle.layout.specs.Layout.{total, all_fit, Overlay, none, over}
use Rattle.layout.specs.Overlay.{Overlaid, with_rows, window_row, overlaid}

-- an overlay's segments are few, and within its columns
abbrev pub Inside : Bool → Overlay → Type 0
Inside hidden none = Unit
Inside hidden (over number first end ws) = Few 15 ws × (first + total hidden ws ≤ end) × (end ≤ 132)

-- the window in hand of this number, on one of its rows
pub record OnRow (row : ℕ) (w : Option Window) (number : ℕ) : Type 0 where
  pub window : Window
  pub there : w ≡ Some window
  pub named : number ≡ window.block.number
  pub begun : window.block.top ≤ row
  pub going : row ≤ window.block.bottom

-- an overlay shows the window in hand
abbrev pub Shows : ℕ → Option Window → Overlay → Type 0
Shows row w none = Unit
Shows row w (over number first end ws) = OnRow row w number

-- what holds of the window on a row, from the window in hand before it
pub record Laid (hidden : Bool) (row : ℕ) (w : Option Window) (o : Overlaid) : Type 0 where
  pub inside : Inside hidden o.overlay
  pub shows : Shows row o.window o.overlay
  pub placed : Placed o.window
  pub after : After w o.window

pub overlaid-reads : (σ : Settings) (row : ℕ) (w : Option Window) → Placed w → Reads (Laid σ.hidden row w) 78 (overlaid σ row w)
unfolding overlaid window_row
overlaid-reads σ row None h = dones (record { inside = tt; shows = tt; placed = tt; after = ended })
overlaid-reads σ row (Some w) h =
    if-reads (leb w.block.top row && leb row w.block.bottom)
    (λ t.
    let on = both (leb w.block.top row) (leb row w.block.bottom) t in
    bind {n = 78} {k = 0} (omega arith) (window-row-reads σ.linear w.rows) λ b hb.
    bind {n = 0} {k = 0} (omega arith) (check-of-reads 9 w.rows (all_fit b.segments)) λ _ _.
    bind {n = 0} {k = 0} (omega arith) (check-reads 11 (leb (total σ.hidden b.segments) (w.block.right + 1 - w.block.left))) λ _ h₁₁.
    let l = leb-true (total σ.hidden b.segments) (w.block.right + 1 - w.block.left) h₁₁ in
    dones
    (record {
      inside = (hb, omega arith, omega arith);
      shows = record { window = with_rows b.link w; there = refl; named = refl; begun = leb-true _ _ on.0; going = leb-true _ _ on.1 };
      placed = h;
      after = same refl;
    }))
    (λ _. dones (record { inside = tt; shows = tt; placed = h; after = same refl }))
