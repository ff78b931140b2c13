-- Each word is the record's value where its register has just been set.
use Rattle.glide_text.specs.GlideText.{soft_after}
use Rattle.glide_text.proofs.soft_after.Goals as goal

pub returns : goal.returns
unfolding soft_after
returns c = rw (c.chosen-2.ensures, c.chosen.ensures)
