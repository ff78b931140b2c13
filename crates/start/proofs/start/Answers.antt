-- What was read, told with row 0.
use mathlib.Core.Path.{ap, ◌∙◌}
use Rattle.start.specs.Start.{started, start_call}
use Rattle.start.proofs.StartLaws.{told-started}
use Rattle.start.proofs.start.Goals as goal

pub returns : goal.returns
unfolding start_call
returns c = c.told_in.ensures ∙ told-started _ ∙ ap started c.read_start.ensures
