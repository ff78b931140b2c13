-- Every field is the definition's.
use Rattle.std.proofs.Common.{refl}
use Rattle.script.specs.Script.{unset}
use Rattle.script.proofs.no_settings.Goals as goal

pub returns : goal.returns
unfolding unset
returns c = refl
