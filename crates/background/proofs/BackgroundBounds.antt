-- How many words the background of a row is read with, and what holds of it.
use mathlib.Core.Bool.{Bool}
use Prim.Native.Nat.{◌≤◌}
use native.Mathlib.Omega.{arith}
use lib.Dec.{leb}
use borrow.Author.Tests.{leb-true}
use Rattle.memory.specs.declared.Pointer.{Pointer}
use Rattle.memory.proofs.ReadBounds.{Reads, dones, bind, check-of-reads}
use Rattle.settings.specs.declared.Settings.{Settings}
use Rattle.blocks.specs.declared.RowFormat.{RowFormat}
use Rattle.blocks.proofs.BlockBounds.{Few, row-block-reads, redefined-reads}
use Rattle.state.specs.declared.Fields.{Fields}
use Rattle.layout.specs.Layout.{total, all_fit}
use Rattle.background.specs.Background.{BackgroundRow, background_block, background_row}

-- a row's segments are few, their widths within 132, and it has a scan line where the state has one
pub record Narrow (hidden : Bool) (f : Fields) (g : BackgroundRow) : Type 0 where
  pub few : Few 15 g.block.segments
  pub narrow : total hidden g.block.segments ≤ 132
  pub tall : 1 ≤ f.format.lines → 1 ≤ g.format.lines

pub block_reads : (linear : Bool) (p : Pointer) (t : RowFormat)
    → Reads (λ g. Few 15 g.block.segments × (1 ≤ t.lines → 1 ≤ g.format.lines)) 83 (background_block linear p t)
unfolding background_block
block_reads linear p t =
    bind {n = 80} {k = 3} (omega arith) (row-block-reads linear p) λ b few.
    bind {n = 3} {k = 0} (omega arith) (redefined-reads linear b.redefinition t) λ format tall. dones (few, tall)

pub background-reads : (σ : Settings) (f : Fields) → Reads (Narrow σ.hidden f) 83 (background_row σ f)
unfolding background_row
background-reads σ f =
    bind {n = 83} {k = 0} (omega arith) (block_reads σ.linear f.next f.format) λ g h.
    bind {n = 0} {k = 0} (omega arith) (check-of-reads 9 f.next (all_fit g.block.segments)) λ _ _.
    bind {n = 0} {k = 0} (omega arith) (check-of-reads 10 f.next (leb (total σ.hidden g.block.segments) 132)) λ _ h₁₀.
    dones (record { few = h.0; narrow = leb-true (total σ.hidden g.block.segments) 132 h₁₀; tall = h.1 })
