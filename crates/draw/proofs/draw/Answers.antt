-- What is printed of the script that was read is the output of its bytes.
use Rattle.std.proofs.Common.{refl}
use Rattle.text.specs.Text.{drawing, outcome_text, output}
use Rattle.script_input.proofs.Printing.{printed}
use Rattle.draw.proofs.draw.Goals as goal

pub returns : goal.returns
unfolding output
returns g c =
    printed (λ rs. outcome_text) (λ rs qs n. refl) output (λ bytes. refl) c.print.result _ _ c.read_script-script.ensures.drawn.taken (c.begin-text.ensures drawing) c.print.ensures
