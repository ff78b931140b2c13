-- Each place has its settings.
use Rattle.mending.specs.Mending.{settings_after}
use Rattle.mending.proofs.clear_register.Goals as goal

pub returns-in-Register : goal.returns-in-Register
unfolding settings_after
returns-in-Register c = rw c.in-Register.is

pub returns-in-Memory : goal.returns-in-Memory
unfolding settings_after
returns-in-Memory c = rw c.in-Memory.is
