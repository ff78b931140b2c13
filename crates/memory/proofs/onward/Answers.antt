-- The address moves on by 2 bytes; where the pointer begins stays.
use Rattle.memory.specs.Address.{next_word}
use Rattle.memory.proofs.onward.Goals as goal

-- The address moves on by 2 bytes; where the pointer begins stays.
pub returns : goal.returns
unfolding next_word
returns c = rw c.forward_in_loops.ensures
