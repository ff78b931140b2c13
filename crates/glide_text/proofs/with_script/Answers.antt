-- The script is new, and so may be the soft top; all else stays.
use Rattle.glide_text.specs.GlideText.{with_script}
use Rattle.glide_text.proofs.with_script.Goals as goal

pub returns : goal.returns
unfolding with_script
returns c = rw c.soft_after.ensures
