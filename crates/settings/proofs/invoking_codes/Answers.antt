use Rattle.settings.specs.Timing.{invoking_codes}
use Rattle.settings.proofs.CodeLaws.{halved-shift}
use Rattle.settings.proofs.invoking_codes.Goals as goal

pub returns : goal.returns
unfolding invoking_codes
returns c = halved-shift _ _
