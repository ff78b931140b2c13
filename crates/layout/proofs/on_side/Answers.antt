-- Each side has its line of `on_side`.
use Rattle.layout.specs.Layout.{on_side}
use Rattle.layout.proofs.on_side.Goals as goal

-- Each side has its line of `on_side`.
pub returns-in-Whole : goal.returns-in-Whole
unfolding on_side
returns-in-Whole c = rw c.in-Whole.is

pub returns-in-Before : goal.returns-in-Before
unfolding on_side
returns-in-Before c = rw c.in-Before.is

pub returns-in-After : goal.returns-in-After
unfolding on_side
returns-in-After c = rw (c.in-After.is, c.is_covered.ensures)
