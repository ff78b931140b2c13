-- An effect that was written, its refusals with an effect's numbers, is read back as it was.
use Rattle.std.proofs.Common.{Some}
use mathlib.Core.Path.{◌≡◌, refl, sym, ◌∙◌}
use mathlib.Core.Bool.{true, false, ◌||◌}
use lib.Dec.{eqb}
use mathlib.Core.List.{List, ◌∷◌}
use Prim.Native.Nat.{ℕ, ◌≤◌}
use borrow.Author.Tests.{ne_eqb, le-leb}
use native.Mathlib.Omega.{arith}
use Rattle.joining.specs.declared.Part.{Part}
use Rattle.joining.specs.declared.Part.TheVariants.{Keep, Set, Refuse}
use Rattle.joining.specs.declared.Effect.{Effect}
use Rattle.numbers.specs.Places.{within, any}
use Rattle.effects.specs.EffectNumbers.{of_effect, part_written, part_at, effect_at, effect_written, effect_in, part_numbers, effect_numbers}

-- a part that fits its numbers: a 16-bit word, or a refusal of an effect with its row and addresses in 32 bits, where another than 7 has 0 in
-- the place where a pointer begins
abbrev pub PartFits : Part → Type 0
PartFits Keep = Unit
PartFits (Set w) = w ≤ 65535
PartFits (Refuse r) =
    (of_effect r.number ≡ true) × (r.number ≤ 17) × (r.row ≤ any) × (r.address ≤ any) × (r.from ≤ any)
    × (eqb r.number 7 || eqb r.from 0 ≡ true)

-- no effect has the refusal 0
numbered : (n : ℕ) → of_effect n ≡ true → n ≡ 0 → ⊥
numbered n h e = let z : true ≡ false = sym h ∙ rw e in absurd (apart z)
  where
    apart : true ≡ false → ⊥
    apart z = let q : ◌≡◌ {A = ℕ} 0 1 = cc in omega arith

abbrev Again : Part → Type 0
Again p =
    (part_written (part_numbers p).number (part_numbers p).row (part_numbers p).address (part_numbers p).from (part_numbers p).sets (part_numbers p).word ≡ true)
    × (part_at (part_numbers p).number (part_numbers p).row (part_numbers p).address (part_numbers p).from (part_numbers p).sets (part_numbers p).word ≡ p)

part-again : (p : Part) → PartFits p → Again p
part-again Keep h = (refl, refl)
part-again (Set w) h = (refl, refl)
part-again (Refuse r) h = let n = ne_eqb r.number 0 (numbered r.number h.0) in (rw (n, h.0, h.5), rw n)

part-within : (p : Part) → PartFits p → (ls xs : List ℕ)
    → within (17 ∷ any ∷ any ∷ any ∷ 1 ∷ 65535 ∷ ls)
    ((part_numbers p).number ∷ (part_numbers p).row ∷ (part_numbers p).address ∷ (part_numbers p).from ∷ (part_numbers p).sets ∷ (part_numbers p).word ∷ xs)
    ≡ within ls xs
unfolding within
part-within Keep h ls xs = refl
part-within (Set w) h ls xs = rw (le-leb w 65535 h)
part-within (Refuse r) h ls xs = rw (le-leb r.number 17 h.1, le-leb r.row any h.2, le-leb r.address any h.3, le-leb r.from any h.4)

pub effect-again : (e : Effect) → PartFits e.clear → PartFits e.set → effect_in (effect_numbers e) ≡ Some e
unfolding effect_in effect_written effect_at effect_numbers within
effect-again e h g =
    rw (part-within e.clear h _ _, part-within e.set g _ _, (part-again e.clear h).0, (part-again e.set g).0, (part-again e.clear h).1, (part-again e.set g).1)
