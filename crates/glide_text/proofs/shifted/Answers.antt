-- The scroll is new, and the script's hard top; all else stays.
use Rattle.glide_text.specs.GlideText.{shifted}
use Rattle.glide_text.proofs.shifted.Goals as goal

pub returns : goal.returns
unfolding shifted
returns c = rw c.with_top-settings.ensures
