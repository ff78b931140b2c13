-- Each call writes its piece after the ones before, so the pieces are the line's, one after the other.
use mathlib.Core.Path.{◌∙◌}
use native.Mathlib.Omega.{arith}
use Rattle.glide_lines.specs.GlideLines.{stretch_line}
use Rattle.glide_lines.proofs.put_stretch.Goals as goal

pub returns : goal.returns
unfolding stretch_line
returns c = (
  omega (arith, c.put.ensures.0, c.put_window-at.ensures.0, c.put_part-at.ensures.0, c.put_gliding-at.ensures.0, c.put_number-at-2.ensures.0, c.put_number-at.ensures.0),
  c.put.ensures.1 ∙ rw (c.put_window-at.ensures.1, c.put_part-at.ensures.1, c.put_gliding-at.ensures.1, c.put_number-at-2.ensures.1, c.put_number-at.ensures.1),
)
