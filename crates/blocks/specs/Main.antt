-- Document 01, "Blocks": the main block.
use Rattle.std.specs.Prelude.{ℕ, ◌+◌, ◌%◌, Bool, List}
use Rattle.memory.specs.Word.{bit, high, low, at}
use Rattle.memory.specs.declared.Pointer.{Pointer}
use Rattle.memory.specs.Reading.{Reading, done, ◌>>=◌, read_as, one_pointer}
use Rattle.memory.specs.Address.{pointer, words}
use Rattle.blocks.specs.declared.MainBlock.{MainBlock}

-- "low five bits plus 1 scan lines per row"
abbrev pub scan_lines : ℕ → ℕ
scan_lines w = w % 32 + 1

-- "Main (7 words). M0,M1 first row block; M2 cursor X high byte, Y low byte; M3 fill code in the low byte, fill flag in
-- bit 8; M4, M5 read, without effect; M6 low five bits plus 1 = scan lines per row." The block is at the address a.
unfoldable pub main_block : Bool → (a : ℕ) → List ℕ → MainBlock
main_block linear a b = record {
  rows = pointer linear a (at b 0) (at b 1);
  cursor = record { x = high (at b 2); y = low (at b 2) };
  fill = record { code = low (at b 3); flag = bit 8 (at b 3) };
  m4 = at b 4;
  lines = scan_lines (at b 6);
}

unfoldable pub main_block_at : Bool → Pointer → Reading MainBlock
main_block_at linear p = do
  b ← read_as one_pointer (words linear 7 p)
  done (main_block linear p.address b)
