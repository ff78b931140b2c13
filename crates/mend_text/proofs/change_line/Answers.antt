-- Each call writes its piece after the ones before, so the pieces are the line's, one after the other.
use mathlib.Core.Path.{◌∙◌}
use Rattle.mend_text.specs.MendText.{change_line}
use Rattle.mend_text.proofs.change_line.Goals as goal

pub returns : goal.returns
unfolding change_line
returns c =
    (c.put_end.ensures.0, c.put_end.ensures.1, c.put_end.ensures.2 ∙ rw (c.put_number-at.ensures.1, c.put_hex-at-3.ensures.1, c.put_hex-at-2.ensures.1, c.put_hex-at.ensures.1, c.place_address.ensures))
