-- Document 01, "A row, left to right": attribute words, and the bits of a cell.
use Rattle.std.specs.Prelude.{ℕ, ◌+◌, ◌*◌, ◌/◌, ◌%◌, ◌^◌, Bool, eqb}
use Rattle.std.specs.Int.Bits.{bit_and}
use Rattle.memory.specs.Word.{bit, high, low}
use Rattle.codes.specs.declared.Source.{Source}

-- "A code invokes an attribute when it equals the value on every bit set in the mask": "mask high byte, value low byte"
unfoldable pub invokes : ℕ → ℕ → Bool
invokes flag code = eqb (bit_and code (high flag)) (bit_and (low flag) (high flag))

-- "Bit 15 makes the word the latch"
abbrev pub latches : ℕ → Bool
latches w = bit 15 w

-- "Bit 13, ignore, from word or latch, keeps the character out of the row"
abbrev pub ignores : ℕ → Bool
ignores w = bit 13 w

-- "source (0 fill, 1 background, 2 window)"; "In cells of source 2 bits 31..24 hold the window's number along the chain, from 0;
-- elsewhere 0." (02)
abbrev pub Fill : Source
Fill = record { kind = 0; window = 0 }

abbrev pub Background : Source
Background = record { kind = 1; window = 0 }

abbrev pub Window : ℕ → Source
Window number = record { kind = 2; window = number }

-- the numbers that a source has in a cell, the first in two bits
unfoldable pub source_number : Source → ℕ
source_number source = source.kind % 4

unfoldable pub window_number : Source → ℕ
window_number source = source.window

-- "Cell bits: 7..0 code; 18..8 attribute bits 10..0; 19 attribute bit 14; 21..20 source"; 31..24 the window's number. Bit 22 is
-- `Row.with_cursor`.
unfoldable pub cell : Source → ℕ → ℕ → ℕ
cell source attribute code =
    code + attribute % 2 ^ 11 * 2 ^ 8 + attribute / 2 ^ 14 % 2 * 2 ^ 19 + source_number source * 2 ^ 20 + window_number source * 2 ^ 24

-- the parts of a cell: its code, the low eleven bits of its attribute, the number of its source, and that of its window
abbrev pub code_of : ℕ → ℕ
code_of c = c % 2 ^ 8

abbrev pub attribute_of : ℕ → ℕ
attribute_of c = c / 2 ^ 8 % 2 ^ 11

abbrev pub source_of : ℕ → ℕ
source_of c = c / 2 ^ 20 % 4

abbrev pub window_number_of : ℕ → ℕ
window_number_of c = c / 2 ^ 24
