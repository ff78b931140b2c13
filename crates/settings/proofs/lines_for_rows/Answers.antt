use Rattle.settings.specs.Timing.{lines_for_rows}
use Rattle.settings.proofs.lines_for_rows.Goals as goal

pub returns-in-Progressive : goal.returns-in-Progressive
unfolding lines_for_rows
returns-in-Progressive c = rw c.in-Progressive.is c.saturating_sub-lines.ensures

pub returns-in-RepeatField : goal.returns-in-RepeatField
unfolding lines_for_rows
returns-in-RepeatField c = rw (c.in-RepeatField.is, c.saturating_sub-lines.ensures)

pub returns-in-Video : goal.returns-in-Video
unfolding lines_for_rows
returns-in-Video c = rw c.in-Video.is c.saturating_sub-lines.ensures
