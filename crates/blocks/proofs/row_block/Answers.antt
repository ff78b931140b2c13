-- `block_at` is told to look for a redefinition pointer, as the definition does.
use Rattle.blocks.specs.RowBlock.{row_block_at}
use Rattle.blocks.proofs.row_block.Goals as goal

pub returns : goal.returns
unfolding row_block_at
returns c = c.block_at.ensures
