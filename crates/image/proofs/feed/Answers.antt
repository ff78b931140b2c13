-- What the bytes come to is what those that are left come to from where the script stands: a byte more is one step of that.
use mathlib.Core.Path.{sym, ◌∙◌}
use lib.ListN.{drop_of_length-le}
use Rattle.image.specs.Feeding.{feeding}
use Rattle.image.proofs.FeedLaws.{feed-next, onward-ended}
use Rattle.image.proofs.feed.Goals as goal

pub returns-in_default : goal.returns-in_default
returns-in_default c =
    sym (c.loop-byte.invariant ∙ feed-next _ _ _ _ _ c.loop-byte-test.true ∙ rw (← c.read_byte.ensures) (onward-ended _ _ _ _ c.in_default.not-More))

pub loop-byte-preserved : goal.loop-byte-preserved
loop-byte-preserved c =
    c.loop-byte.invariant ∙ feed-next _ _ _ _ _ c.loop-byte-test.true ∙ rw (← c.read_byte.ensures, c.in-More.is)

pub returns : goal.returns
unfolding feeding
returns c = sym (c.loop-byte.invariant ∙ rw (drop_of_length-le _ c.loop-byte-test.false))
