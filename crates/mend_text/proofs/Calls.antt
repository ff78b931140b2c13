-- What a caller gets who reads a script in any parts, asks for changes until there is none more, then begins the draw program's text of
-- what is left and asks for its lines until its end: the output of the script's bytes.
use Rattle.std.proofs.Common.{Some, None}
use mathlib.Core.Path.{◌≡◌, sym, ap, ◌∙◌}
use mathlib.Core.List.{List, [], ◌++◌, append_assoc}
use Prim.Native.Nat.{ℕ, ◌^◌, ◌<◌}
use lib.ListN.{length, take}
use Rattle.settings.specs.declared.Settings.{Settings}
use Rattle.script.specs.Script.{drawn, refused_at}
use Rattle.script.specs.Feeding.{outcome, joined, read_parts}
use Rattle.script.proofs.ByRecords.{Bytes, read-script}
use Rattle.frame.specs.Frame.{frame}
use Rattle.lines.specs.Lines.{script_line}
use Rattle.lines.proofs.PieceLaws.{Calls, calls-text}
use Rattle.text.specs.declared.Text.{Text}
use Rattle.text.specs.Text.{frame_text}
use Rattle.text.specs.ToCome.{to_come, calls}
use Rattle.mend_text.specs.MendText.{outcome_text, output}
use Rattle.mend_text.specs.NextChange.{to_mend, Next}

-- calls of `next_change` from settings and memory to the last, the bytes that they write, one after the other, and what they leave
pub data Changes : Settings → List ℕ → List ℕ → Settings → List ℕ → Type 0 where
  written : {σ σ₁ σ₂ : Settings} {m m₁ m₂ : List ℕ} {n : ℕ} {buffer more : List ℕ} → Next σ m (Some (record { count = n; after = σ₁ })) m₁ buffer → Changes σ₁ m₁ more σ₂ m₂
      → Changes σ m (take n buffer ++ more) σ₂ m₂
  ended : {σ : Settings} {m m₁ : List ℕ} (buffer : List ℕ) → Next σ m None m₁ buffer → Changes σ m [] σ m₁

pub changes-text : {σ σ₂ : Settings} {m m₂ bytes : List ℕ} → Changes σ m bytes σ₂ m₂ → bytes ++ frame_text σ₂ (frame 0 σ₂ m₂) ≡ to_mend σ m
changes-text (written {σ₂} {m₂} {n} {buffer} {more} w c) =
    append_assoc (take n buffer) more (frame_text σ₂ (frame 0 σ₂ m₂)) ∙ ap (λ (more : List ℕ). take n buffer ++ more) (changes-text c) ∙ w.bytes
changes-text (ended {σ} buffer e) = ap (λ (m : List ℕ). frame_text σ (frame 0 σ m)) e.0 ∙ sym e.1

module _ (parts : List (List ℕ)) (fits : length (joined parts) < 2 ^ 64) (w : Bytes (joined parts)) where
  -- a script that draws: its changes, then the lines of the draw program's text
  pub caller-gets : {σ σ₂ : Settings} {m m₂ changes bytes : List ℕ} {t : Text} → outcome (read_parts parts) ≡ drawn σ m → Changes σ m changes σ₂ m₂
      → to_come m₂ t ≡ frame_text σ₂ (frame 0 σ₂ m₂) → Calls (to_come m₂) calls t bytes → changes ++ bytes ≡ output (joined parts)
  unfolding output
  caller-gets {changes} e c i k =
      ap (λ (more : List ℕ). changes ++ more) (calls-text k ∙ i) ∙ changes-text c ∙ sym (ap outcome_text e) ∙ ap outcome_text (read-script parts fits w)

  -- a script that is refused: its line
  pub refused-gets : (m : List ℕ) {n : ℕ} {bytes : List ℕ} {t : Text} → outcome (read_parts parts) ≡ refused_at n → to_come m t ≡ script_line n → Calls (to_come m) calls t bytes
      → bytes ≡ output (joined parts)
  unfolding output
  refused-gets m e i k = calls-text k ∙ i ∙ sym (ap outcome_text e) ∙ ap outcome_text (read-script parts fits w)
