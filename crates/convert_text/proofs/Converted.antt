-- What an accepted conversion gives is again what a script can come to, so its script is read as its image: the draw program prints the frame that
-- the segmented list had, and every register is kept.
use Rattle.std.proofs.Common.{Ok, Err}
use mathlib.Core.Path.{◌≡◌, refl, ap, subst, subst⁻¹, ◌∙◌}
use mathlib.Core.List.{List, [], ◌∷◌, ◌++◌}
use Prim.Native.Nat.{ℕ, ◌<◌}
use lib.ListN.{length, get_or}
use Rattle.memory.specs.declared.Refusal.{Refusal}
use Rattle.memory.proofs.ReadBounds.{if-cases}
use Rattle.settings.specs.declared.Settings.{Settings}
use Rattle.lines.specs.Lines.{refusal_line, script_line}
use Rattle.frame.specs.Frame.{FrameRow, Frame, frame}
use Rattle.text.specs.Form as Form
use Rattle.text.specs.Text.{row_text, rows_text, last_line, frame_text}
use Rattle.text.specs.Text as Draw
use Rattle.script.specs.Script.{records, script}
use Rattle.script.specs.Script as Script
use Rattle.script.proofs.Invariants.{Draws}
use Rattle.image.specs.Registers.{registers_of}
use Rattle.image.specs.Image.{drawn, image_of, image}
use Rattle.image.proofs.Ranged.{Kept, script-kept, kept-ranged, kept-settings}
use Rattle.image.proofs.Again.{image-again, script-again}
use Rattle.converter.specs.declared.Conversion.{Conversion}
use Rattle.converter.specs.Below.{frame_below, frame_pointers}
use Rattle.converter.specs.Converter.{turned_settings, convert_call}
use Rattle.converter.specs.Conversions.{is_read, Turns}
use Rattle.converter.proofs.Converted.{all-turn}
use Rattle.convert_text.specs.Registers.{turned_registers, Turned}
use Rattle.convert_text.specs.ConvertText.{answer_text, called_text, output}
use Rattle.convert_text.proofs.Turned.{turned-small, turned-sixteen, turned-fields, turned}

-- the text of a frame looks at no setting that is turned
same_rows : (σ : Settings) (rows : List FrameRow) → rows_text (turned_settings σ) rows ≡ rows_text σ rows
unfolding turned_settings Form.rows_text
same_rows σ [] = refl
same_rows σ (r ∷ rows) = ap (◌++◌ (row_text σ r)) (same_rows σ rows)

same_text : (σ : Settings) (f : Frame) → frame_text (turned_settings σ) f ≡ frame_text σ f
unfolding Form.frame_text
same_text σ f = ap (λ (rows : List ℕ). rows ++ last_line f.refusal (length f.rows) f.words) (same_rows σ f.rows)

-- ---- an accepted conversion of what a script comes to ----
module _ (latch : ℕ) (σ : Settings) (rs m : List ℕ) (k : Kept σ rs m) (c : Conversion) (e : (convert_call latch σ m (length m)).answer ≡ Ok c) where
  unfoldable pub after : List ℕ
  after = (convert_call latch σ m (length m)).memory

  top_small : σ.top.second < 65536
  top_small = subst⁻¹ (λ (w : ℕ). w < 65536) (ap (λ (τ : Settings). τ.top.second) k.fields) (k.registers.words 0x0a)

  tow-small : σ.tow.second < 65536
  tow-small = subst⁻¹ (λ (w : ℕ). w < 65536) (ap (λ (τ : Settings). τ.tow.second) k.fields) (k.registers.words 0x0c)

  turns : Turns latch σ m after c
  unfolding after
  turns = all-turn latch σ m (length m) c (k.memory.words, top_small, tow-small) e

  words-kept : (i : ℕ) → get_or after i 0 < 65536
  words-kept i =
      subst⁻¹ (λ (w : ℕ). w < 65536) (turns.turned i)
      (if-cases (λ (w : ℕ). w < 65536) (is_read i (frame_pointers latch σ m)) (λ _. turned-small (get_or m i 0)) (λ _. k.memory.words i))

  -- its settings, the turned registers and its memory are again what a script can come to
  turned-kept : Kept (turned_settings σ) (turned_registers rs) after
  unfolding turned_settings
  turned-kept = record {
    fields = ap turned_settings k.fields ∙ turned-fields rs k.registers.size σ;
    edition = k.edition;
    registers = turned-sixteen k.registers;
    memory = record { size = turns.size ∙ k.memory.size; words = words-kept };
  }

  pub conversion-kept : Kept c.settings (turned_registers rs) after
  conversion-kept = subst⁻¹ (λ (τ : Settings). Kept τ (turned_registers rs) after) turns.settings turned-kept

  -- so its script is read as its image
  converted-image : image (answer_text rs (Ok c) after) ≡ drawn (image_of c.settings (turned_registers rs) after)
  converted-image = image-again (image_of c.settings (turned_registers rs) after) (kept-ranged conversion-kept)

  converted-script : script (answer_text rs (Ok c) after) ≡ Script.drawn c.settings after
  converted-script =
      script-again (image_of c.settings (turned_registers rs) after) (kept-ranged conversion-kept)
      ∙ ap (λ (τ : Settings). Script.drawn τ after) (kept-settings conversion-kept)

  -- and the draw program prints the frame of the segmented list, from that latch where it is 0
  same-frame : frame_text c.settings (frame latch c.settings after) ≡ frame_text σ (frame_below latch σ m)
  same-frame =
      ap (frame_text c.settings) turns.same_frame
      ∙ ap (λ (τ : Settings). frame_text τ (frame_below latch σ m)) turns.settings
      ∙ same_text σ (frame_below latch σ m)

-- ---- `./convert < old`, and `| ./draw` ----
-- a script that draws from settings and memory whose conversion is accepted
module _ (bytes : List ℕ) (σ : Settings) (m : List ℕ) (s : script bytes ≡ Script.drawn σ m) where
  kept : Kept σ (registers_of bytes) m
  kept = subst (Draws (λ (τ : Settings) (n : List ℕ). Kept τ (registers_of bytes) n)) s (script-kept bytes)

  -- the image of the converter's output: the settings and the memory that the conversion gives, and the script's registers, turned
  pub image-turned : (c : Conversion) → (convert_call 0 σ m (length m)).answer ≡ Ok c
      → image (output bytes) ≡ drawn (image_of c.settings (turned_registers (registers_of bytes)) (convert_call 0 σ m (length m)).memory)
  unfolding output called_text after
  image-turned c e = rw (s, e) (converted-image 0 σ (registers_of bytes) m kept c e)

  -- of which every register but the first words of soft tops, TOP and TOW is as the script set it
  pub registers-kept : Turned (registers_of bytes) (turned_registers (registers_of bytes))
  registers-kept = turned (registers_of bytes) kept.registers.size

  -- the draw program's output of the converter's is the text of the frame that the segmented list has, as the rules below the checks on the
  -- settings draw it
  pub drawn-again : (c : Conversion) → (convert_call 0 σ m (length m)).answer ≡ Ok c → Draw.output (output bytes) ≡ frame_text σ (frame_below 0 σ m)
  unfolding Draw.output output called_text after
  drawn-again c e =
      rw (s, e)
      (ap Draw.outcome_text (converted-script 0 σ (registers_of bytes) m kept c e) ∙ same-frame 0 σ (registers_of bytes) m kept c e)

  -- a refusal is its line
  pub refused-line : (r : Refusal) → (convert_call 0 σ m (length m)).answer ≡ Err r → output bytes ≡ refusal_line r
  unfolding output called_text
  refused-line r e = rw (s, e)

-- the line of a refusal is no script
pub line_refused : (r : Refusal) → Draw.output (refusal_line r) ≡ script_line 0
unfolding Draw.output script records refusal_line
line_refused r = refl
