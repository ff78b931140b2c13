-- Document 01, "Blocks": row blocks with their segments, and redefinitions.
use Rattle.std.specs.Prelude.{ℕ, zero, suc, ◌+◌, ◌*◌, ◌%◌, Bool, true, false, ◌&&◌, List, [], ◌∷◌, drop}
use Rattle.memory.specs.Word.{when◌then◌else◌, bit, high, low, at}
use Rattle.memory.specs.declared.Pointer.{Pointer}
use Rattle.memory.specs.Reading.{Role, First, Second, Other, Reading, done, ◌>>=◌, read_as, one_pointer}
use Rattle.memory.specs.Address.{nothing, pointer, null, ahead, further, words}
use Rattle.blocks.specs.declared.Segment.{Segment}
use Rattle.blocks.specs.declared.SegmentCount.{SegmentCount}
use Rattle.blocks.specs.declared.RowFormat.{RowFormat}
use Rattle.blocks.specs.Main.{scan_lines}

-- "per segment: code pointer (2), attribute pointer (2), a word with length L in the high byte and visible V in the low". The segment is
-- at the address a.
unfoldable pub segment_of : Bool → (a : ℕ) → List ℕ → Segment
segment_of linear a b = record {
  codes = pointer linear a (at b 0) (at b 1);
  attributes = pointer linear (ahead linear 2 a) (at b 2) (at b 3);
  length = high (at b 4);
  visible = low (at b 4);
}

-- n segments, five words each, the first at the address a
unfoldable pub segments_at : Bool → (a n : ℕ) → List ℕ → List Segment
segments_at linear a zero b = []
segments_at linear a (suc n) b = segment_of linear a b ∷ segments_at linear (ahead linear 5 a) n (drop 5 b)

-- as many as counted
abbrev pub segments_of : Bool → SegmentCount → List ℕ → List Segment
segments_of linear count b = segments_at linear count.at count.number b

-- "Row. Link (2); a word whose bits 3..0 count segments and whose bit 15 says that a redefinition pointer (2) follows; then
-- per segment .. Other bits are ignored."
pub record RowBlock : Type 0 where
  pub link : Pointer
  pub redefinition : Pointer
  pub segments : List Segment

-- "A null row link .. means every later row has no segments .. Then no block is read."
abbrev pub no_block : RowBlock
no_block = record { link = nothing; redefinition = nothing; segments = [] }

-- the words of n segments: two pointers and a word, each
unfoldable pub segment_roles : ℕ → List Role
segment_roles zero = []
segment_roles (suc n) = First ∷ Second ∷ First ∷ Second ∷ Other ∷ segment_roles n

-- the block at p whose first three words are `head`, with its segments from word k on
abbrev pub segments_from : Bool → Pointer → List ℕ → Pointer → ℕ → Reading RowBlock
segments_from linear p head redefinition k = do
  gs ← read_as (segment_roles (at head 2 % 16)) (words linear (5 * (at head 2 % 16)) (further linear k p))
  done (record {
    link = pointer linear p.address (at head 0) (at head 1);
    redefinition = redefinition;
    segments = segments_at linear (ahead linear k p.address) (at head 2 % 16) gs;
  })

-- the rest of the block at p, which has `pointed` words (2 or 0) of a redefinition pointer
unfoldable pub rest_of_block : Bool → Pointer → List ℕ → ℕ → Reading RowBlock
rest_of_block linear p head pointed = do
  re ← read_as one_pointer (words linear pointed (further linear 3 p))
  segments_from linear p head (pointer linear (ahead linear 3 p.address) (at re 0) (at re 1)) (3 + pointed)

unfoldable pub block_at : Bool → Bool → Pointer → Reading RowBlock
block_at linear redefines p = when null p then done no_block else do
  head ← read_as one_pointer (words linear 3 p)
  rest_of_block linear p head (when redefines && bit 15 (at head 2) then 2 else 0)

unfoldable pub row_block_at : Bool → Pointer → Reading RowBlock
row_block_at linear p = block_at linear true p

-- "Window row. As Row, but bit 15 is ignored and no pointer follows."
unfoldable pub window_row_at : Bool → Pointer → Reading RowBlock
window_row_at linear p = block_at linear false p

-- "Redefinition (3). Low ten bits row attributes; low five bits plus 1 scan lines per row; CURS in bits 12..8 and CURE in
-- bits 4..0. It holds for this row and those after. A null pointer redefines nothing."
unfoldable pub format_of : List ℕ → RowFormat
format_of b = record { attributes = at b 0 % 1024; lines = scan_lines (at b 1); curs = high (at b 2) % 32; cure = at b 2 % 32 }

unfoldable pub redefined : Bool → Pointer → RowFormat → Reading RowFormat
redefined linear p format = when null p then done format else do
  b ← words linear 3 p
  done (format_of b)
