-- After the input's end frames go on while they may and the scroll is not at rest.
use Rattle.glide_text.specs.ToCome.{to_come}
use Rattle.glide_text.proofs.TextLaws.{ends, goes_on}
use Rattle.glide_text.proofs.resume.Goals as goal

pub returns-in-Input : goal.returns-in-Input
unfolding to_come
returns-in-Input c bs m = rw c.in-Input.is

pub returns-then-left-is_at_rest : goal.returns-then-left-is_at_rest
unfolding to_come
returns-then-left-is_at_rest c bs m =
    rw c.in-Frames.is (ends c.in-Frames.left c.args.glide m (rw c.is_at_rest.ensures at c.if-left-is_at_rest.true))

pub returns-else-left-is_at_rest : goal.returns-else-left-is_at_rest
unfolding to_come
returns-else-left-is_at_rest c bs m =
    rw c.in-Frames.is (goes_on c.in-Frames.left c.args.glide m (rw c.is_at_rest.ensures at c.if-left-is_at_rest.false))
