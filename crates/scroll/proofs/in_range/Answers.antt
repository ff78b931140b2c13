-- Each test of the code is one of the rule; a field of 32 bits is the number of its bits.
use Rattle.std.proofs.Common.{rules}
use Rattle.scroll.specs.Scroll.{in_range}
use Rattle.scroll.proofs.in_range.Goals as goal

pub returns : goal.returns
unfolding in_range
returns c = search rules
