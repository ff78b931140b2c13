-- The two tests are the definition's two.
use Rattle.memory.specs.Answers.{is_run}
use Rattle.memory.proofs.is_run.Goals as goal

pub returns : goal.returns
unfolding is_run
returns c = rw (c.has_room.ensures, c.has_room-2.ensures, c.end_page-end.ensures)
