-- Each field is the main block's or the frame's first; the lines are those for rows.
use Rattle.start.specs.Start.{first_fields}
use Rattle.start.proofs.first_fields.Goals as goal

pub returns : goal.returns
unfolding first_fields
returns c = rw (c.lines_for_rows.ensures, c.first_format-format.ensures)
