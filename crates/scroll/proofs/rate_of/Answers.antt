-- The rate is read off its number, below 8 or not.
use borrow.Author.Tests.{lt-ltb, le-ltb}
use Rattle.scroll.specs.Rate.{rate}
use Rattle.scroll.proofs.rate_of.Goals as goal

pub returns-then-n-lt8 : goal.returns-then-n-lt8
unfolding rate
returns-then-n-lt8 c = rw (lt-ltb _ _ c.if-n-lt8.true)

pub returns-else-n-lt8 : goal.returns-else-n-lt8
unfolding rate
returns-else-n-lt8 c = rw (le-ltb _ _ c.if-n-lt8.false)
