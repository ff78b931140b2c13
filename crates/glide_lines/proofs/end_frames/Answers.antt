-- The number stands after its name, and the end of the line after it.
use mathlib.Core.Path.{◌∙◌}
use Rattle.glide_lines.specs.GlideLines.{end_frames}
use Rattle.glide_lines.proofs.end_frames.Goals as goal

pub returns : goal.returns
unfolding end_frames
returns c =
    (c.put_end.ensures.0, c.put_end.ensures.1, c.put_end.ensures.2 ∙ rw c.put_number-at.ensures.1)
