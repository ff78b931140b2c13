-- The lines of the changes and then the text of the list that they leave are the output of the script's bytes; a refused script's is its line.
use Rattle.std.proofs.Common.{ℕ, List, Result, Ok, Err, OnOk, refl, subst}
use Rattle.std.proofs.KnownBytes.{Appends-trans}
use Rattle.std.specs.declared.option.Option.{Option}
use Rattle.std.specs.Io.KnownBytes.{Appends}
use Rattle.settings.specs.declared.Settings.{Settings}
use Rattle.frame.specs.Frame.{frame}
use Rattle.text.specs.Text.{frame_text}
use Rattle.mend_text.specs.MendText.{outcome_text, output}
use Rattle.mend_text.specs.NextChange.{to_mend}
use Rattle.script_input.proofs.Printing.{printed}
use Rattle.mend.specs.Mended.{Mends}
use Rattle.mend.proofs.mend_script.Goals as goal

with_changes : {T E : Type 0} (result : Result T E) (held between holds : Option (List ℕ)) {σ σ₁ : Settings} {m m₁ : List ℕ}
    → Mends held between σ m σ₁ m₁ → OnOk result (Appends between holds (frame_text σ₁ (frame 0 σ₁ m₁)))
    → OnOk result (Appends held holds (to_mend σ m))
with_changes (Ok x) held between holds d w =
    subst (Appends held holds) d.lines (Appends-trans held between holds d.changes _ d.appended w)
with_changes (Err e) held between holds d w = tt

pub returns-in_ok-mended-in-Draw : goal.returns-in_ok-mended-in-Draw
unfolding output
returns-in_ok-mended-in-Draw g c =
    printed (λ rs. outcome_text) (λ rs qs n. refl) output (λ bytes. refl) c.print.result _ _ c.in-Draw.ensures.drawn.taken refl
    (with_changes c.print.result _ _ _ c.in_ok-mended-in-Draw.ensures c.print.ensures)

pub returns-in-Refused : goal.returns-in-Refused
unfolding output
returns-in-Refused g c =
    printed (λ rs. outcome_text) (λ rs qs n. refl) output (λ bytes. refl) c.print-in-Refused.result _ _ c.in-Refused.ensures.drawn.taken refl
    c.print-in-Refused.ensures

pub returns-in-More : goal.returns-in-More
unfolding output
returns-in-More g c =
    printed (λ rs. outcome_text) (λ rs qs n. refl) output (λ bytes. refl) c.print-in-More.result _ _ c.in-More.ensures.drawn.taken refl
    c.print-in-More.ensures
