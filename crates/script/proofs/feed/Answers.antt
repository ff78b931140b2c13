-- What the bytes come to is what those from i on come to from where the script stands: a byte more is one step of that.
use Rattle.std.proofs.Common.{sym, ◌∙◌, drop_of_length-le}
use Rattle.script.specs.Feeding.{feeding}
use Rattle.script.proofs.FeedLaws.{feed-next, stops}
use Rattle.script.proofs.feed.Goals as goal

pub returns-in_default : goal.returns-in_default
returns-in_default c =
    let l = c.loop-byte in
    sym (l.invariant ∙ feed-next _ _ _ _ c.loop-byte-test.true ∙ rw (← c.read_byte.ensures) (stops _ _ _ c.in_default.not-More))

pub loop-byte-preserved : goal.loop-byte-preserved
loop-byte-preserved c =
    c.loop-byte.invariant ∙ feed-next _ _ _ _ c.loop-byte-test.true ∙ rw (← c.read_byte.ensures, c.in-More.is)

pub returns : goal.returns
unfolding feeding
returns c = sym (c.loop-byte.invariant ∙ rw (drop_of_length-le _ c.loop-byte-test.false))
