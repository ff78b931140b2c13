-- What a caller gets who reads a script in any parts, begins its text and asks for lines until its end: the output of the script's bytes.
use mathlib.Core.Path.{◌≡◌, refl, ◌∙◌}
use mathlib.Core.List.{List}
use Prim.Native.Nat.{ℕ, ◌^◌, ◌<◌}
use lib.ListN.{length}
use Rattle.script.specs.Script.{Outcome}
use Rattle.script.specs.Feeding.{outcome, joined}
use Rattle.script.proofs.ByRecords.{Bytes}
use Rattle.image.specs.Feeding.{read_parts}
use Rattle.image.proofs.Reading.{read-image}
use Rattle.lines.proofs.PieceLaws.{Calls, calls-text}
use Rattle.bus_text.specs.declared.Text.{Text}
use Rattle.bus_text.specs.FrameReport.{outcome_text, burst_of, output}
use Rattle.bus_text.specs.ToCome.{to_come, calls}

-- the parts of a script, what `begin` says of its text, and the calls for its lines
module _ (parts : List (List ℕ)) (fits : length (joined parts) < 2 ^ 64) (w : Bytes (joined parts)) where
  pub caller-gets : (m : List ℕ) {t : Text} {bytes : List ℕ}
      → to_come m t ≡ outcome_text (burst_of (read_parts parts).registers) (outcome (read_parts parts).stepped) → Calls (to_come m) calls t bytes → bytes ≡ output (joined parts)
  unfolding output
  caller-gets m e c = calls-text c ∙ e ∙ read-image (λ (rs : List ℕ) (o : Outcome). outcome_text (burst_of rs) o) (λ rs qs n. refl) parts fits w
