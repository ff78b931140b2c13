-- The cursor, the fill's code and the pointer to the rows are their calls'; the other fields are the definition's as they stand.
use Rattle.blocks.specs.Main.{main_block}
use Rattle.blocks.proofs.main_block_of.Goals as goal

pub returns : goal.returns
unfolding main_block
returns c =
    rw (c.pointer_of.ensures, c.low_byte-2.ensures, c.low_byte.ensures, c.high_byte.ensures)
