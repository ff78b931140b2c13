-- The registers of a converted script: which are turned, that the others are kept, and that they are those of the turned settings.
use mathlib.Core.Path.{◌≡◌, refl, subst⁻¹, ◌∙◌}
use mathlib.Core.List.{List}
use Prim.Native.Nat.{ℕ, ◌<◌}
use native.Mathlib.Omega.{arith}
use lib.ListN.{length}
use lib.Seq.{get_or-set_other}
use Rattle.settings.specs.declared.Settings.{Settings}
use Rattle.image.specs.Ranges.{Sixteen}
use Rattle.image.proofs.Fields.{with_fields, at, all-spelled}
use Rattle.image.proofs.Ranged.{set-sixteen}
use Rattle.converter.specs.Converter.{turned_first, turned_settings}
use Rattle.convert_text.specs.Registers.{turned_at, turned_registers, Turned}

pub turned-small : (w : ℕ) → turned_first w < 65536
turned-small w = omega arith

pub turned-sixteen : {rs : List ℕ} → Sixteen 25 rs → Sixteen 25 (turned_registers rs)
unfolding turned_registers
turned-sixteen s =
    set-sixteen 0x0b _ (turned-small _) (set-sixteen 0x09 _ (turned-small _) (set-sixteen 0x06 _ (turned-small _) (set-sixteen 0x04 _ (turned-small _) s)))

-- the fields of the turned settings
pub turned-fields : (rs : List ℕ) → length rs ≡ 25 → (σ : Settings)
    → turned_settings (with_fields (at rs) σ) ≡ with_fields (at (turned_registers rs)) (turned_settings σ)
unfolding turned_registers turned_settings
turned-fields rs e σ =
    subst⁻¹ (λ (xs : List ℕ). turned_settings (with_fields (at xs) σ) ≡ with_fields (at (turned_registers xs)) (turned_settings σ)) (all-spelled rs e) refl

-- what a register is after the turn
first-words : (rs : List ℕ) → length rs ≡ 25
    → (at (turned_registers rs) 0x04 ≡ turned_first (at rs 0x04)) × (at (turned_registers rs) 0x06 ≡ turned_first (at rs 0x06))
    × (at (turned_registers rs) 0x09 ≡ turned_first (at rs 0x09)) × (at (turned_registers rs) 0x0b ≡ turned_first (at rs 0x0b))
unfolding turned_registers
first-words rs e =
    subst⁻¹
    (λ (xs : List ℕ). (at (turned_registers xs) 0x04 ≡ turned_first (at xs 0x04)) × (at (turned_registers xs) 0x06 ≡ turned_first (at xs 0x06))
    × (at (turned_registers xs) 0x09 ≡ turned_first (at xs 0x09)) × (at (turned_registers xs) 0x0b ≡ turned_first (at xs 0x0b)))
    (all-spelled rs e) (refl, refl, refl, refl)

other : (rs : List ℕ) (a r : ℕ) → (r ≡ a → ⊥) → at (turned_at a rs) r ≡ at rs r
other rs a r f = get_or-set_other rs a r _ 0 f

pub turned : (rs : List ℕ) → length rs ≡ 25 → Turned rs (turned_registers rs)
unfolding turned_registers
turned rs e =
    let f = first-words rs e in
    let s = turned_at 0x04 rs in
    let t = turned_at 0x06 s in
    let u = turned_at 0x09 t in
    record {
      soft_top = f.0;
      soft_tow = f.1;
      top = f.2;
      tow = f.3;
      others = λ r a b c d. other u 0x0b r d ∙ other t 0x09 r c ∙ other s 0x06 r b ∙ other rs 0x04 r a;
    }
