-- Document 02, "Segmented memory goes away": the registers of a converted script. 003's summary: 04 and 05 top of page soft, 06 and 07 top of
-- window soft, 09 and 0A top of page hard, 0B and 0C top of window hard, high-order word first.
use Rattle.std.specs.Prelude.{ℕ, ◌≡◌, List, get_or, set}
use Rattle.converter.specs.Converter.{turned_first}

-- "the first word's other bits 0, second word kept"
abbrev pub turned_at : ℕ → List ℕ → List ℕ
turned_at r rs = set rs r (turned_first (get_or rs r 0))

-- "and TOP and TOW", and the soft tops as they are
unfoldable pub turned_registers : List ℕ → List ℕ
turned_registers rs = turned_at 0x0b (turned_at 0x09 (turned_at 0x06 (turned_at 0x04 rs)))

-- what that comes to: every register but the first words of pointers is kept
pub record Turned (before after : List ℕ) : Type 0 where
  pub soft_top : get_or after 0x04 0 ≡ turned_first (get_or before 0x04 0)
  pub soft_tow : get_or after 0x06 0 ≡ turned_first (get_or before 0x06 0)
  pub top : get_or after 0x09 0 ≡ turned_first (get_or before 0x09 0)
  pub tow : get_or after 0x0b 0 ≡ turned_first (get_or before 0x0b 0)
  pub others : (r : ℕ) → (r ≡ 0x04 → ⊥) → (r ≡ 0x06 → ⊥) → (r ≡ 0x09 → ⊥) → (r ≡ 0x0b → ⊥) → get_or after r 0 ≡ get_or before r 0
