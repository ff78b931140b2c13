-- The test without the sum is the rule's where the segment begins by the window's end; past it the window covers nothing.
use lib.Dec.{leb}
use Rattle.layout.specs.Layout.{covered}
use Rattle.memory.proofs.RunLaws.{ends_by}
use Rattle.layout.proofs.LayoutLaws.{ends-past}
use Rattle.layout.proofs.is_covered.Goals as goal

-- The test without the sum is the rule's where the segment begins by the window's end; past it the window covers nothing.
pub returns-then-s-end : goal.returns-then-s-end
unfolding covered
returns-then-s-end c = rw (ends_by _ _ _ c.if-s-end.true)

pub returns-else-s-end : goal.returns-else-s-end
unfolding covered
returns-else-s-end c =
    let a = c.args in
    ends-past (leb a.first a.s) a.s a.w a.end c.if-s-end.false
