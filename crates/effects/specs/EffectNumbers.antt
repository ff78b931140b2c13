-- An effect as numbers at their places, and from them.
use Rattle.std.specs.Prelude.{ℕ, Bool, ◌&&◌, ◌||◌, List, [], ◌∷◌, eqb, leb, Option, Some, None}
use Rattle.memory.specs.Word.{when◌then◌else◌, at}
use Rattle.joining.specs.declared.Part.{Part}
use Rattle.joining.specs.declared.Part.TheVariants.{Keep, Set, Refuse}
use Rattle.joining.specs.declared.Effect.{Effect}
use Rattle.numbers.specs.Places.{within, any}
use Rattle.numbers.specs.Decode.{yes}
use Rattle.effects.specs.declared.encode.PartNumbers.{PartNumbers}

-- the part for ignore clear, then the one for ignore set. Each: the number of its refusal, or 0, its row, its address and where the pointer
-- of a refusal 7 begins; whether it sets the latch, and the word
abbrev pub effect_limits : List ℕ
effect_limits = 17 ∷ any ∷ any ∷ any ∷ 1 ∷ 65535 ∷ 17 ∷ any ∷ any ∷ any ∷ 1 ∷ 65535 ∷ []

-- a part: a refusal where its number is not 0, else a set or a keep
abbrev pub part_at : ℕ → ℕ → ℕ → ℕ → ℕ → ℕ → Part
part_at number row address from sets word =
    when eqb number 0
    then (when yes sets then Set word else Keep)
    else Refuse (record { number = number; row = row; address = address; from = from })

unfoldable pub effect_at : List ℕ → Effect
effect_at xs = record {
  clear = part_at (at xs 0) (at xs 1) (at xs 2) (at xs 3) (at xs 4) (at xs 5);
  set = part_at (at xs 6) (at xs 7) (at xs 8) (at xs 9) (at xs 10) (at xs 11);
}

-- the refusals that the effect of a row can have: "it takes a row's checks but 1"; 02, of refusal 5: "withdrawn, its number unused"
abbrev pub of_effect : ℕ → Bool
of_effect n = (leb 2 n && leb n 4) || (leb 7 n && leb n 13) || eqb n 17

-- numbers that the effect call writes for a part: what the part does not use is 0; "other refusals hold 0" where the pointer of a 7 begins
abbrev pub part_written : ℕ → ℕ → ℕ → ℕ → ℕ → ℕ → Bool
part_written number row address from sets word =
    when eqb number 0
    then eqb row 0 && eqb address 0 && eqb from 0 && (yes sets || eqb word 0)
    else of_effect number && (eqb number 7 || eqb from 0) && eqb sets 0 && eqb word 0

unfoldable pub effect_written : List ℕ → Option Effect
effect_written xs =
    when part_written (at xs 0) (at xs 1) (at xs 2) (at xs 3) (at xs 4) (at xs 5)
    && part_written (at xs 6) (at xs 7) (at xs 8) (at xs 9) (at xs 10) (at xs 11)
    then Some (effect_at xs)
    else None

unfoldable pub effect_in : List ℕ → Option Effect
effect_in xs = when within effect_limits xs then effect_written xs else None

-- a part's numbers
abbrev pub part_numbers : Part → PartNumbers
part_numbers Keep = record { number = 0; row = 0; address = 0; from = 0; sets = 0; word = 0 }
part_numbers (Set w) = record { number = 0; row = 0; address = 0; from = 0; sets = 1; word = w }
part_numbers (Refuse r) = record { number = r.number; row = r.row; address = r.address; from = r.from; sets = 0; word = 0 }

abbrev pub numbers_of : PartNumbers → PartNumbers → List ℕ
numbers_of c s =
    c.number ∷ c.row ∷ c.address ∷ c.from ∷ c.sets ∷ c.word
    ∷ s.number ∷ s.row ∷ s.address ∷ s.from ∷ s.sets ∷ s.word ∷ []

unfoldable pub effect_numbers : Effect → List ℕ
effect_numbers e = numbers_of (part_numbers e.clear) (part_numbers e.set)
