-- A script before its first record; nothing else is set.
use Rattle.glide_text.specs.GlideText.{first_glide}
use Rattle.glide_text.proofs.begin.Goals as goal

pub returns : goal.returns
unfolding first_glide
returns c = rw c.begin-script.ensures
