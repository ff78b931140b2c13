-- The script has read one byte more, and has no record in hand.
use Rattle.glide_text.specs.GlideText.{past_draw}
use Rattle.glide_text.proofs.past_draw.Goals as goal

pub returns : goal.returns
unfolding past_draw
returns c = rw c.count.ensures
