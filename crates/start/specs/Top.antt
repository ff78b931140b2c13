-- The main block that a top register leads to, and the bits of its M4 (document 02, soft scroll).
use Rattle.std.specs.Prelude.{ℕ, ◌/◌, ◌%◌, Bool, not, ◌&&◌}
use Rattle.memory.specs.Word.{bit}
use Rattle.memory.specs.declared.Pointer.{Pointer}
use Rattle.memory.specs.Reading.{Reading, done, ◌>>=◌, ◌>>◌, check}
use Rattle.memory.specs.Address.{pointer, null}
use Rattle.settings.specs.declared.PointerWords.{PointerWords}
use Rattle.blocks.specs.declared.MainBlock.{MainBlock}
use Rattle.blocks.specs.Main.{main_block_at}

-- the pointer that a register holds in two words. 02: "0 when a register held it"
abbrev pub registered : Bool → PointerWords → Pointer
registered linear w = pointer linear 0 w.first w.second

-- "M4's bits are 14 enable, 13 up, 12 window, 11..8 document 000's sixteen rates (places ours)."
abbrev pub enabled : MainBlock → Bool
enabled m = bit 14 m.m4

abbrev pub upward : MainBlock → Bool
upward m = bit 13 m.m4

abbrev pub of_window : MainBlock → Bool
of_window m = bit 12 m.m4

abbrev pub rate_number : MainBlock → ℕ
rate_number m = m.m4 / 256 % 16

-- ".. 6, 7 for the main block". Refusal 6: "TOP null (start)"; 14: "enable and window set, in starts too, after a main block's"
unfoldable pub top_block : Bool → PointerWords → Reading MainBlock
top_block linear top = do
  check 6 (not (null (registered linear top)))
  m ← main_block_at linear (registered linear top)
  check 14 (not (enabled m && of_window m))
  done m
