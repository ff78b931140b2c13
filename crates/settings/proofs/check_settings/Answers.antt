-- The two checks, on good settings and on linear ones, are the code's tests.
use Rattle.memory.specs.Reading.{◌>>=◌, run_from}
use Rattle.settings.specs.Good.{check_settings}
use Rattle.settings.proofs.check_settings.Goals as goal

-- The two checks, on good settings and on linear ones, are the code's tests.
pub returns-then-settings : goal.returns-then-settings
unfolding check_settings run_from ◌>>=◌
returns-then-settings c n m = rw (← c.is_good.ensures, c.if-is_good.true, c.if-settings.true)

pub returns-else-settings : goal.returns-else-settings
unfolding check_settings run_from ◌>>=◌
returns-else-settings c n m = rw (← c.is_good.ensures, c.if-is_good.true, c.if-settings.false, c.fault_of.ensures)

pub returns-else-is_good : goal.returns-else-is_good
unfolding check_settings run_from ◌>>=◌
returns-else-is_good c n m = rw (← c.is_good.ensures, c.if-is_good.false, c.fault_of-else-is_good.ensures)
