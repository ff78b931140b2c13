-- What is printed of the script that was read is the output of its bytes.
use Rattle.std.proofs.Common.{refl}
use Rattle.convert_text.specs.ConvertText.{outcome_text, output}
use Rattle.script_input.proofs.Printing.{printed}
use Rattle.convert.proofs.convert.Goals as goal

pub returns : goal.returns
unfolding output
returns g c =
    printed outcome_text (λ rs qs n. refl) output (λ bytes. refl) c.print.result _ _ c.read_image-script.ensures.taken c.begin-text.ensures.0
    c.print.ensures
