-- Just after a draw frames go on, 256 at most; elsewhere the script is refused.
use Rattle.glide_text.specs.ToCome.{to_come}
use Rattle.glide_text.proofs.end_input.Goals as goal

pub returns-else-glide : goal.returns-else-glide
unfolding to_come
returns-else-glide c m = rw (c.if-glide.false, c.at_end.ensures)
