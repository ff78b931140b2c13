-- What the background of a row comes to: a law for each way through its definitions, from what the readings in it come to.
use mathlib.Core.Path.{◌≡◌, ◌∙◌}
use mathlib.Core.Bool.{Bool}
use mathlib.Core.List.{List}
use Prim.Native.Nat.{ℕ, ◌+◌, ◌≤◌}
use native.Mathlib.Omega.{arith}
use Rattle.memory.specs.declared.Fault.{Fault}
use Rattle.memory.specs.declared.Pointer.{Pointer}
use Rattle.memory.specs.Reading.{given, refused, run_from, run}
use Rattle.memory.proofs.Laws.{bind-given, bind-refused, step_given, step-refused, run-done}
use Rattle.memory.proofs.ReadBounds.{Words, reads-given}
use Rattle.settings.specs.declared.Settings.{Settings}
use Rattle.blocks.specs.declared.RowFormat.{RowFormat}
use Rattle.blocks.specs.RowBlock.{RowBlock, row_block_at, redefined}
use Rattle.blocks.proofs.BlockBounds.{row-block-reads, redefined-reads}
use Rattle.state.specs.declared.Fields.{Fields}
use Rattle.layout.proofs.OverlayLaws.{judged}
use Rattle.background.specs.Background.{BackgroundRow, background_block, background_row}

-- the row block and its redefinition
module _ (m : List ℕ) (l : Bool) (p : Pointer) (format : RowFormat) where
  pub block_refused : {x : Fault} → run m (row_block_at l p) ≡ refused x → run m (background_block l p format) ≡ refused x
  unfolding background_block
  block_refused e = bind-refused 0 m (row_block_at l p) _ e

  module _ {w : ℕ} {b : RowBlock} (e : run m (row_block_at l p) ≡ given w b) where
    pub format-refused : {x : Fault} → run m (redefined l b.redefinition format) ≡ refused x → run m (background_block l p format) ≡ refused x
    unfolding background_block
    format-refused d = bind-given 0 m (row_block_at l p) _ e ∙ step-refused w m (redefined l b.redefinition format) _ d

    module _ {n : ℕ} {t : RowFormat} (d : run m (redefined l b.redefinition format) ≡ given n t) where
      pub block_read : run m (background_block l p format) ≡ given (w + n) (record { block = b; format = t })
      unfolding background_block
      block_read =
          bind-given 0 m (row_block_at l p) _ e ∙ step_given w m (redefined l b.redefinition format) _ d ∙ run-done _ _ _

      pub block_words : Words m → w + n ≤ 83
      block_words h = omega (arith, (reads-given 0 m h (row-block-reads l p) e).0, (reads-given 0 m h (redefined-reads l b.redefinition format) d).0)

-- then the checks on its segments
module _ (m : List ℕ) (σ : Settings) (f : Fields) where
  pub row-refused : {x : Fault} → run m (background_block σ.linear f.next f.format) ≡ refused x → run m (background_row σ f) ≡ refused x
  unfolding background_row
  row-refused e = bind-refused 0 m (background_block σ.linear f.next f.format) _ e

  pub row-checks : {n : ℕ} {g : BackgroundRow} → run m (background_block σ.linear f.next f.format) ≡ given n g
      → run m (background_row σ f) ≡ run_from n m (judged σ.hidden g.block.segments f.next 10 f.next 132 g)
  unfolding background_row
  row-checks e = bind-given 0 m (background_block σ.linear f.next f.format) _ e
