-- Texts that are written piece by piece, and characters one after the other.
use mathlib.Core.Path.{◌≡◌, refl, ap}
use mathlib.Core.List.{List, [], ◌∷◌, ◌++◌, append_assoc, map}
use Prim.Native.Nat.{ℕ, ◌+◌, ◌<◌}
use native.Mathlib.Nat.{add_assoc}
use native.Mathlib.Numerals.{add-one}
use lib.ListN.{length, get_or, take, set}
use lib.Seq.{take-suc}
use Rattle.memory.proofs.ListLaws.{take_next}
use Rattle.glide_lines.specs.GlideLines.{character}

-- a name, and the seven pieces of a part of a row
pub part-pieces : (before name i f l o h a x : List ℕ)
    → before ++ name ++ i ++ f ++ l ++ o ++ h ++ a ++ x ≡ before ++ name ++ (i ++ f ++ l ++ o ++ h ++ a ++ x)
part-pieces before name i f l o h a x = simp append_assoc

-- four pieces
pub four-pieces : (before a b c d : List ℕ) → before ++ a ++ b ++ c ++ d ≡ before ++ (a ++ b ++ c ++ d)
four-pieces before a b c d = simp append_assoc

-- three pieces
pub three-pieces : (before a b c : List ℕ) → before ++ a ++ b ++ c ≡ before ++ (a ++ b ++ c)
three-pieces before a b c = simp append_assoc

-- a name of two pieces
pub name-pieces : (before a b c : List ℕ) → before ++ (a ++ b) ++ c ≡ before ++ a ++ (b ++ c)
name-pieces before a b c = simp append_assoc

map_last : (l : List ℕ) (x : ℕ) → map character (l ++ (x ∷ [])) ≡ map character l ++ (character x ∷ [])
map_last [] x = refl
map_last (y ∷ l) x = ap (λ (r : List ℕ). character y ∷ r) (map_last l x)

-- one more character
pub character-more : (out cells before : List ℕ) (at i : ℕ) → at + i < length out → i < length cells
    → take (at + i) out ≡ before ++ map character (take i cells)
    → take (at + (i + 1)) (set out (at + i) (character (get_or cells i 0))) ≡ before ++ map character (take (i + 1) cells)
character-more out cells before at i h g e =
    rw (← add_assoc at i 1, take_next out (at + i) (character (get_or cells i 0)) h, e, append_assoc, add-one i, take-suc cells i 0 g, map_last)

-- a sign after a name
pub sign-pieces : (before a b c : List ℕ) → before ++ (a ++ b) ++ c ≡ before ++ a ++ b ++ c
sign-pieces before a b c = simp append_assoc
