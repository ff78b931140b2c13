-- A script that was written from an image is read as that image.
use mathlib.Core.Path.{◌≡◌, refl, ap, sym, ◌∙◌}
use mathlib.Core.List.{List, ◌++◌}
use Prim.Native.Nat.{ℕ, zero, suc, ◌≤◌}
use native.Mathlib.Omega.{arith}
use native.Mathlib.Nat.{le_refl}
use lib.ListN.{length, replicate}
use Rattle.settings.specs.declared.Settings.{Settings}
use Rattle.script.specs.Script.{unset, records, script}
use Rattle.script.specs.Script as Script
use Rattle.image.specs.Registers.{registers_by, registers_of}
use Rattle.image.specs.Image.{Image, drawn, switches_of, image, settings_of}
use Rattle.image.specs.Ranges.{Ranged}
use Rattle.image.specs.Written.{head_text, word_record, values_text, draw_record, written}
use Rattle.image.proofs.Leads.{imaged, Leads, in-turn, switches-lead, registers-lead, words-lead}
use Rattle.image.proofs.Ranged.{script-by-image, drawn_by}

module _ (i : Image) (r : Ranged i) where
  last : (size n at : ℕ) (σ : Settings) → switches_of σ ≡ i.switches → 1 ≤ n → imaged size n at σ i.registers i.memory draw_record ≡ drawn i
  unfolding records registers_by
  last size zero at σ e h = absurd (omega arith)
  last size (suc n) at σ e h = rw e

  before-draw : Leads (head_text i.switches i.registers ++ values_text word_record 0 i.memory) (switches_of unset)
      (replicate (length i.registers) 0) (replicate (length i.memory) 0) i.switches i.registers i.memory
  before-draw =
      let none : List ℕ = replicate (length i.registers) 0 in
      let zeros : List ℕ = replicate (length i.memory) 0 in
      in-turn
      (in-turn (switches-lead (switches_of unset) i.switches r.switches r.interlace none zeros)
      (registers-lead i.switches none zeros i.registers (omega arith) r.registers.words))
      (words-lead i.switches i.registers zeros i.memory (omega arith) r.memory.words)

  from-zeros : (none zeros : List ℕ) → none ≡ replicate (length i.registers) 0 → zeros ≡ replicate (length i.memory) 0
      → imaged (length (written i)) (length (written i)) 0 unset none zeros (written i) ≡ drawn i
  unfolding written
  from-zeros none zeros e f =
      rw (e, f)
      (before-draw.comes-to (length (written i)) (length (written i)) 0 unset draw_record (drawn i) refl (le_refl _)
      (λ k next σ g h. last (length (written i)) k next σ g h))

  pub image-again : image (written i) ≡ drawn i
  unfolding image script registers_of
  image-again =
      from-zeros (replicate 25 0) (replicate 16384 0) (ap (λ (n : ℕ). replicate n 0) (sym r.registers.size))
      (ap (λ (n : ℕ). replicate n 0) (sym r.memory.size))

  -- so the draw program draws from its settings and memory
  pub script-again : script (written i) ≡ Script.drawn (settings_of i) i.memory
  script-again = script-by-image (written i) ∙ ap drawn_by image-again
