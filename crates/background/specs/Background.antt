-- The background of a row: its block with the redefinition, and checks 9 and 10.
use Rattle.std.specs.Prelude.{Bool, leb}
use Rattle.memory.specs.declared.Pointer.{Pointer}
use Rattle.memory.specs.Reading.{Reading, done, ◌>>=◌, ◌>>◌, check_of}
use Rattle.settings.specs.declared.Settings.{Settings}
use Rattle.blocks.specs.declared.RowFormat.{RowFormat}
use Rattle.blocks.specs.RowBlock.{RowBlock, row_block_at, redefined}
use Rattle.state.specs.declared.Fields.{Fields}
use Rattle.layout.specs.Layout.{total, all_fit}

-- a row's block, and the format that its redefinition makes
pub record BackgroundRow : Type 0 where
  pub block : RowBlock
  pub format : RowFormat

-- "the whole row block, then its redefinition (7)"
unfoldable pub background_block : Bool → Pointer → RowFormat → Reading BackgroundRow
background_block linear p format = do
  b ← row_block_at linear p
  t ← redefined linear b.redefinition format
  done (record { block = b; format = t })

-- ".. 9, 10". Refusal 9: "V > L, code pointer not null"; 10: "background widths sum above 132"
unfoldable pub background_row : Settings → Fields → Reading BackgroundRow
background_row σ f = do
  g ← background_block σ.linear f.next f.format
  check_of 9 f.next (all_fit g.block.segments)
  check_of 10 f.next (leb (total σ.hidden g.block.segments) 132)
  done g
