-- The script of an image. Its records come in a fixed order: the switches, the registers, rising, the words of memory, rising, and the draw.
-- "Unset is 0", so a register or a word that is 0 has no record.
use Rattle.std.specs.Prelude.{ℕ, ◌+◌, ◌*◌, List, [], ◌∷◌, ◌++◌, eqb}
use Rattle.memory.specs.Word.{when◌then◌else◌, high, low}
use Rattle.image.specs.Image.{Image}

-- 01: "3: switches (1)"
abbrev pub switches_record : ℕ → List ℕ
switches_record s = 3 ∷ s ∷ []

-- "1: register address, value (3)", "high byte first"
abbrev pub register_record : (r value : ℕ) → List ℕ
register_record r v = 1 ∷ r ∷ high v ∷ low v ∷ []

-- "2: byte address, word (5)". Word i stands at byte address 2i, whose high byte is 0 in a memory of "16,384 words"
abbrev pub word_record : (i word : ℕ) → List ℕ
word_record i w = 2 ∷ 0 ∷ high (2 * i) ∷ low (2 * i) ∷ high w ∷ low w ∷ []

-- the records of values from number i on
abbrev pub value_text : (ℕ → ℕ → List ℕ) → (i value : ℕ) → List ℕ
value_text record_of i v = when eqb v 0 then [] else record_of i v

unfoldable pub values_text : (ℕ → ℕ → List ℕ) → ℕ → List ℕ → List ℕ
values_text record_of i [] = []
values_text record_of i (v ∷ vs) = value_text record_of i v ++ values_text record_of (i + 1) vs

-- "0: draw and stop (no body)"
abbrev pub draw_record : List ℕ
draw_record = 0 ∷ []

abbrev pub head_text : (switches : ℕ) (registers : List ℕ) → List ℕ
head_text s rs = switches_record s ++ values_text register_record 0 rs

unfoldable pub written : Image → List ℕ
written i = head_text i.switches i.registers ++ values_text word_record 0 i.memory ++ draw_record
