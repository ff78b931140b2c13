-- A byte is the script's, with the register noted whose record it ends; past a draw or a refusal there is none.
use Rattle.image.specs.Feeding.{byte_of}
use Rattle.image.proofs.FeedLaws.{none-noted}
use Rattle.image.proofs.read_byte.Goals as goal

pub returns-in-More : goal.returns-in-More
unfolding byte_of
returns-in-More c =
    rw (← c.read_byte.ensures, c.in-More.is, c.note.ensures)

pub returns-in_default : goal.returns-in_default
unfolding byte_of
returns-in_default c =
    rw (← c.read_byte.ensures, none-noted _ _ c.in_default.not-More)
