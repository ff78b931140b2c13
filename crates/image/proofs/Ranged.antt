-- The image of every script that draws is in range, and its settings are those that the script draws with.
use mathlib.Core.Path.{◌≡◌, refl, sym, ap, ◌∙◌}
use mathlib.Core.List.{List, [], ◌∷◌}
use Prim.Native.Nat.{ℕ, zero, suc, ◌/◌, ◌<◌}
use native.Mathlib.Omega.{arith}
use lib.ListN.{set, replicate, length-set, length-replicate}
use lib.Dec.{eqb, lit<}
use Rattle.memory.proofs.ReadBounds.{Words}
use Rattle.settings.specs.declared.Edition.TheVariants.{Am8052}
use Rattle.settings.specs.declared.Settings.{Settings}
use Rattle.script.specs.Records.{address, value, switched, registered, settings_after, memory_after}
use Rattle.script.specs.Script.{unset, script}
use Rattle.script.specs.Script as Script
use Rattle.script.proofs.Invariants.{Draws}
use Rattle.image.specs.Registers.{registers_after, registers_of}
use Rattle.image.specs.Image.{Image, Outcome, drawn, refused_at, image_of, with_registers, image, settings_of}
use Rattle.image.specs.Ranges.{Sixteen, Ranged}
use Rattle.image.proofs.Invariants.{either, image-draws}
use Rattle.image.proofs.Fields.{with_fields, at, fields-set, settings-of, switches-small, interlace-small}

-- ---- lists of 16-bit words ----
set_words : (ws : List ℕ) (i w : ℕ) → w < 65536 → Words ws → Words (set ws i w)
set_words [] i w h g k = lit< tt
set_words (x ∷ ws) zero w h g zero = h
set_words (x ∷ ws) zero w h g (suc k) = g (suc k)
set_words (x ∷ ws) (suc i) w h g zero = g 0
set_words (x ∷ ws) (suc i) w h g (suc k) = set_words ws i w h (λ j. g (suc j)) k

pub set-sixteen : {n : ℕ} {ws : List ℕ} (i w : ℕ) → w < 65536 → Sixteen n ws → Sixteen n (set ws i w)
set-sixteen {ws} i w h s = record { size = length-set ws i w ∙ s.size; words = set_words ws i w h s.words }

zeros-words : (n : ℕ) → Words (replicate n 0)
zeros-words zero k = lit< tt
zeros-words (suc n) zero = lit< tt
zeros-words (suc n) (suc k) = zeros-words n k

zeros : (n : ℕ) → Sixteen n (replicate n 0)
zeros n = record { size = length-replicate {A = ℕ} n 0; words = zeros-words n }

-- ---- a record ----
-- what a script can come to: settings by the registers, of the first edition, and lists in range
pub record Kept (σ : Settings) (rs m : List ℕ) : Type 0 where
  pub fields : σ ≡ with_fields (at rs) σ
  pub edition : σ.edition ≡ Am8052
  pub registers : Sixteen 25 rs
  pub memory : Sixteen 16384 m

module _ (body : ℕ) (σ : Settings) (rs m : List ℕ) (k : Kept σ rs m) where
  small : value body < 65536
  small = omega arith

  register-kept : Kept (registered (address body) (value body) σ) (set rs (address body) (value body)) m
  unfolding registered
  register-kept =
      record {
        fields = ap (registered (address body) (value body)) k.fields ∙ sym (fields-set rs k.registers.size (address body) (value body) σ);
        edition = k.edition;
        registers = set-sixteen (address body) (value body) small k.registers;
        memory = k.memory;
      }

  word_kept : Kept σ rs (set m (address body / 2) (value body))
  word_kept = record { fields = k.fields; edition = k.edition; registers = k.registers; memory = set-sixteen (address body / 2) (value body) small k.memory }

  switches-kept : Kept (switched body σ) rs m
  unfolding switched
  switches-kept = record { fields = ap (switched body) k.fields; edition = k.edition; registers = k.registers; memory = k.memory }

kept : (kind body : ℕ) (σ : Settings) (rs m : List ℕ) → Kept σ rs m → Kept (settings_after kind body σ) (registers_after kind body rs) (memory_after kind body m)
unfolding settings_after registers_after memory_after
kept kind body σ rs m k =
    either (eqb kind 1) (λ e. rw e (register-kept body σ rs m k))
    (λ e. either (eqb kind 2) (λ f. rw (e, f) (word_kept body σ rs m k)) (λ f. rw (e, f) (switches-kept body σ rs m k)))

-- ---- a script ----
pub script-kept : (bytes : List ℕ) → Draws (λ σ m. Kept σ (registers_of bytes) m) (script bytes)
unfolding unset
script-kept = image-draws Kept kept (record { fields = refl; edition = refl; registers = zeros 25; memory = zeros 16384 })

-- P holds of the image that a script comes to, if it draws
abbrev pub Images : (Image → Type 0) → Outcome → Type 0
Images P (drawn i) = P i
Images P (refused_at n) = Unit

pub kept-ranged : {σ : Settings} {rs m : List ℕ} → Kept σ rs m → Ranged (image_of σ rs m)
kept-ranged {σ} k = record { switches = switches-small σ; interlace = interlace-small σ; registers = k.registers; memory = k.memory }

pub kept-settings : {σ : Settings} {rs m : List ℕ} → Kept σ rs m → settings_of (image_of σ rs m) ≡ σ
kept-settings {σ} {rs} {m} k = settings-of σ rs m k.registers.size k.edition k.fields

in-range : (rs : List ℕ) (o : Script.Outcome) → Draws (λ σ m. Kept σ rs m) o → Images Ranged (with_registers rs o)
in-range rs (Script.drawn σ m) k = kept-ranged k
in-range rs (Script.refused_at n) k = tt

pub image-ranged : (bytes : List ℕ) → Images Ranged (image bytes)
unfolding image
image-ranged bytes = in-range (registers_of bytes) (script bytes) (script-kept bytes)

-- the script draws with the settings and the memory of its image, and is refused where it has none
abbrev pub drawn_by : Outcome → Script.Outcome
drawn_by (drawn i) = Script.drawn (settings_of i) i.memory
drawn_by (refused_at n) = Script.refused_at n

same : (rs : List ℕ) (o : Script.Outcome) → Draws (λ σ m. Kept σ rs m) o → o ≡ drawn_by (with_registers rs o)
same rs (Script.drawn σ m) k = ap (λ (τ : Settings). Script.drawn τ m) (sym (kept-settings k))
same rs (Script.refused_at n) k = refl

pub script-by-image : (bytes : List ℕ) → script bytes ≡ drawn_by (image bytes)
unfolding image
script-by-image bytes = same (registers_of bytes) (script bytes) (script-kept bytes)
