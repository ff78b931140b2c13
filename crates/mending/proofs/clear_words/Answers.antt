-- The two words are set one after the other.
use Rattle.mending.specs.Mending.{memory_after}
use Rattle.mending.proofs.clear_words.Goals as goal

pub returns-in-Memory : goal.returns-in-Memory
unfolding memory_after
returns-in-Memory c =
    rw (c.in-Memory.is, ← c.clear_word.ensures, ← c.next_word.ensures)
    c.clear_word-in-Memory.ensures

pub returns-in_default : goal.returns-in_default
unfolding memory_after
returns-in_default c = rw c.in_default.is
