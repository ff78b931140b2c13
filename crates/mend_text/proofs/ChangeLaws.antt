-- A call's answer and the text of a list, by a step of its mending.
use Rattle.std.proofs.Common.{Some, None}
use mathlib.Core.Path.{◌≡◌, refl, sym, ap, subst, ◌∙◌}
use mathlib.Core.List.{List, ◌++◌, append_assoc}
use Prim.Native.Nat.{ℕ, ◌<◌}
use Rattle.settings.specs.declared.Settings.{Settings}
use Rattle.frame.specs.Frame.{frame}
use Rattle.lines.specs.Lines.{Line}
use Rattle.lines.specs.Pieces.{Writes}
use Rattle.lines.proofs.PieceLaws.{with-piece}
use Rattle.text.specs.Text.{frame_text}
use Rattle.blame.specs.declared.Verdict.{Verdict}
use Rattle.blame.specs.Blame.{verdict}
use Rattle.mending.specs.declared.Change.{Change}
use Rattle.mending.specs.declared.MendAnswer.{MendAnswer}
use Rattle.mending.specs.declared.MendAnswer.TheVariants.{Whole, Changed, Refused}
use Rattle.mending.specs.Mending.{Stepped, stepped, by_verdict, mend_step, by_step, count, mended}
use Rattle.mending.proofs.Steps.{Sixteen, mended-step}
use Rattle.mend_text.specs.MendText.{change_line, changes_text, mended_text}
use Rattle.mend_text.specs.NextChange.{Given, given, by_answer, next_change, answered, to_mend}

-- the answer of a step that changes nothing
abbrev pub Unchanged : MendAnswer → Type 0
Unchanged Whole = Unit
Unchanged (Changed c σ) = ⊥
Unchanged (Refused r) = Unit

-- a call's answer is a step's
module _ (σ : Settings) (m : List ℕ) where
  abbrev next_of : Stepped → Given
  next_of s = by_answer σ s.answer s.memory

  pub changed-next : {c : Change} {σ₁ : Settings} {m₁ : List ℕ} (n : ℕ) (buffer : List ℕ) → Line (change_line c) n buffer
      → stepped (Changed c σ₁) m₁ ≡ mend_step 0 σ m → answered σ (Some (record { count = n; after = σ₁ })) m₁ buffer ≡ next_change σ m
  unfolding next_change
  changed-next {σ₁} {m₁} n buffer l e = ap (λ (t : List ℕ). given (Some t) σ₁ m₁) l.2 ∙ ap next_of e

  pub unchanged-next : (x : MendAnswer) → Unchanged x → {m₁ : List ℕ} → stepped x m₁ ≡ mend_step 0 σ m → given None σ m₁ ≡ next_change σ m
  unfolding next_change
  unchanged-next Whole h e = ap next_of e
  unchanged-next (Changed c σ₁) h e = absurd h
  unchanged-next (Refused r) h e = ap next_of e

module _ (σ : Settings) (m : List ℕ) (w : Sixteen σ m) where
  by-step : {s : Stepped} → s ≡ mend_step 0 σ m → to_mend σ m ≡ mended_text (by_step (mended 0) σ s)
  by-step e = ap mended_text (mended-step 0 σ m w ∙ ap (by_step (mended 0) σ) (sym e))

  pub changed-text : {c : Change} {σ₁ : Settings} {m₁ : List ℕ} → stepped (Changed c σ₁) m₁ ≡ mend_step 0 σ m
      → change_line c ++ to_mend σ₁ m₁ ≡ to_mend σ m
  unfolding mended_text changes_text
  changed-text {c} {σ₁} {m₁} e =
      let d = mended 0 σ₁ m₁ in
      sym (by-step e ∙ append_assoc (change_line c) (changes_text d.changes) (frame_text d.settings (frame 0 d.settings d.memory)))

  pub change-written : {c : Change} {σ₁ : Settings} {m₁ : List ℕ} (n : ℕ) (buffer : List ℕ) → Line (change_line c) n buffer
      → stepped (Changed c σ₁) m₁ ≡ mend_step 0 σ m → count σ₁ m₁ < count σ m → Writes n buffer (to_mend σ m) (to_mend σ₁ m₁) (count σ m) (count σ₁ m₁)
  change-written n buffer l e f = with-piece l (changed-text e) f

  -- where nothing is changed memory is left, and the text is the draw program's
  pub unchanged-text : (x : MendAnswer) → Unchanged x → {m₁ : List ℕ} → stepped x m₁ ≡ mend_step 0 σ m
      → (m₁ ≡ m) × (to_mend σ m ≡ frame_text σ (frame 0 σ m))
  unfolding mended_text changes_text mend_step
  unchanged-text x h {m₁} e = by (verdict 0 σ m) refl
    where
      answer : (v : Verdict) → verdict 0 σ m ≡ v → x ≡ (by_verdict σ m v).answer
      answer v k = ap (λ (s : Stepped). s.answer) e ∙ ap (λ (v : Verdict). (by_verdict σ m v).answer) k

      memory : (v : Verdict) → verdict 0 σ m ≡ v → m₁ ≡ (by_verdict σ m v).memory
      memory v k = ap (λ (s : Stepped). s.memory) e ∙ ap (λ (v : Verdict). (by_verdict σ m v).memory) k

      text : (v : Verdict) → verdict 0 σ m ≡ v → to_mend σ m ≡ mended_text (by_step (mended 0) σ (by_verdict σ m v))
      text v k = by-step refl ∙ ap (λ (v : Verdict). mended_text (by_step (mended 0) σ (by_verdict σ m v))) k

      by : (v : Verdict) → verdict 0 σ m ≡ v → (m₁ ≡ m) × (to_mend σ m ≡ frame_text σ (frame 0 σ m))
      by Verdict.Whole k = (memory Verdict.Whole k, text Verdict.Whole k)
      by (Verdict.Blamed p n) k = absurd (subst Unchanged (answer (Verdict.Blamed p n) k) h)
      by (Verdict.Refused r) k = (memory (Verdict.Refused r) k, text (Verdict.Refused r) k)
