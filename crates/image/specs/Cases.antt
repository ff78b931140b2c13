-- Registers and a written script, computed by the definitions.
use Rattle.std.specs.Prelude.{ℕ, ◌≡◌, refl, List, [], ◌∷◌, ◌++◌, replicate}
use Rattle.script.specs.Script.{number_from}
use Rattle.image.specs.Registers.{registers_after, registers_by, registers_of}
use Rattle.image.specs.Written.{values_text, written}

-- register 10h set twice, and 18h; a word whose record looks like a register's, and a record after the draw
unfoldable pub twice : List ℕ
twice =
    (1 ∷ 0x10 ∷ 0x10 ∷ 0x08 ∷ []) ++ (2 ∷ 0 ∷ 0 ∷ 0x10 ∷ 0x04 ∷ 0x01 ∷ []) ++ (1 ∷ 0x18 ∷ 0xff ∷ 0xff ∷ [])
    ++ (1 ∷ 0x10 ∷ 0x20 ∷ 0x04 ∷ []) ++ (0 ∷ []) ++ (1 ∷ 0x00 ∷ 0x12 ∷ 0x34 ∷ [])

pub last-counts : registers_of twice ≡ replicate 16 0 ++ (0x2004 ∷ replicate 7 0) ++ (0xffff ∷ [])
unfolding twice number_from registers_after registers_by registers_of
last-counts = refl

-- switches, register 1, the words at 2 and 4 of three; what is 0 has no record
pub short : written (record { switches = 0x11; registers = 0 ∷ 0x1008 ∷ []; memory = 0 ∷ 0x4142 ∷ 0x0102 ∷ [] })
    ≡ 3 ∷ 0x11 ∷ 1 ∷ 1 ∷ 0x10 ∷ 8 ∷ 2 ∷ 0 ∷ 0 ∷ 2 ∷ 0x41 ∷ 0x42 ∷ 2 ∷ 0 ∷ 0 ∷ 4 ∷ 1 ∷ 2 ∷ 0 ∷ []
unfolding values_text written
short = refl
