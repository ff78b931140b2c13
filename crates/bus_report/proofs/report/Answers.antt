-- What is printed of the script that was read is the output of its bytes.
use Rattle.std.proofs.Common.{refl}
use Rattle.bus_text.specs.FrameReport.{burst_of, outcome_text, output}
use Rattle.script_input.proofs.Printing.{printed}
use Rattle.bus_report.proofs.report.Goals as goal

pub returns : goal.returns
unfolding output
returns g c =
    printed (λ rs. outcome_text (burst_of rs)) (λ rs qs n. refl) output (λ bytes. refl) c.print.result _ _ c.read_image-script.ensures.taken
    c.begin-text.ensures c.print.ensures
