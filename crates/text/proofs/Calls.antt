-- What a caller gets who reads a script in any parts, begins its text and asks for lines until its end: the output of the script's bytes.
use mathlib.Core.Path.{◌≡◌, ap, ◌∙◌}
use mathlib.Core.List.{List}
use Prim.Native.Nat.{ℕ, ◌^◌, ◌<◌}
use lib.ListN.{length}
use Rattle.lines.proofs.PieceLaws.{Calls, calls-text}
use Rattle.script.specs.Feeding.{outcome, joined, read_parts}
use Rattle.script.proofs.ByRecords.{Bytes, read-script}
use Rattle.text.specs.declared.Text.{Text}
use Rattle.text.specs.Text.{outcome_text, output}
use Rattle.text.specs.ToCome.{to_come, calls}

-- the parts of a script, what `begin` says of its text, and the calls for its lines
module _ (parts : List (List ℕ)) (fits : length (joined parts) < 2 ^ 64) (w : Bytes (joined parts)) where
  pub caller-gets : {t : Text} {bytes : List ℕ} → to_come (read_parts parts).memory t ≡ outcome_text (outcome (read_parts parts))
      → Calls (to_come (read_parts parts).memory) calls t bytes → bytes ≡ output (joined parts)
  unfolding output
  caller-gets e c = calls-text c ∙ e ∙ ap outcome_text (read-script parts fits w)
