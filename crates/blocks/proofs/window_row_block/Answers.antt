-- `block_at` is told to look for no redefinition pointer, as the definition does.
use Rattle.blocks.specs.RowBlock.{window_row_at}
use Rattle.blocks.proofs.window_row_block.Goals as goal

pub returns : goal.returns
unfolding window_row_at
returns c = c.block_at.ensures
