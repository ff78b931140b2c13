-- The count and the latch are new; all else stays.
use Rattle.glide_text.specs.GlideText.{after_frame}
use Rattle.glide_text.proofs.after_frame.Goals as goal

pub returns : goal.returns
unfolding after_frame
returns c = rw c.count.ensures
