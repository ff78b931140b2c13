-- The settings are `no_settings`, and every number is 0.
use Rattle.script.specs.Feeding.{beginning}
use Rattle.script.proofs.begin.Goals as goal

pub returns : goal.returns
unfolding beginning
returns c = rw c.no_settings-settings.ensures
