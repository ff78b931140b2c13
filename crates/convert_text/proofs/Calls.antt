-- What a caller gets who reads a script in any parts, begins its text and asks for pieces until its end: the output of the script's bytes.
use mathlib.Core.Path.{◌≡◌, refl, ◌∙◌}
use mathlib.Core.List.{List}
use Prim.Native.Nat.{ℕ, ◌^◌, ◌<◌}
use lib.ListN.{length}
use Rattle.script.specs.Feeding.{outcome, joined}
use Rattle.script.proofs.ByRecords.{Bytes}
use Rattle.image.specs.Feeding.{read_parts}
use Rattle.image.proofs.Reading.{read-image}
use Rattle.lines.proofs.PieceLaws.{Calls, calls-text}
use Rattle.convert_text.specs.declared.Text.{Text}
use Rattle.convert_text.specs.ConvertText.{outcome_text, output}
use Rattle.convert_text.specs.ToCome.{to_come, calls}

-- the parts of a script, what `begin` says of its text on the registers and the memory that it leaves, and the calls for its pieces
module _ (parts : List (List ℕ)) (fits : length (joined parts) < 2 ^ 64) (w : Bytes (joined parts)) where
  pub caller-gets : (rs m : List ℕ) {t : Text} {bytes : List ℕ} → to_come rs m t ≡ outcome_text (read_parts parts).registers (outcome (read_parts parts).stepped)
      → Calls (to_come rs m) calls t bytes → bytes ≡ output (joined parts)
  unfolding output
  caller-gets rs m e c = calls-text c ∙ e ∙ read-image outcome_text (λ rs qs n. refl) parts fits w
