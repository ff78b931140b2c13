-- How many words the blocks are read with, and what holds of them: at most 15 segments, lengths of a byte.
use mathlib.Core.Bool.{Bool, true, false, ◌&&◌}
use mathlib.Core.List.{List, [], ◌∷◌}
use Prim.Native.Nat.{ℕ, zero, suc, ◌+◌, ◌*◌, ◌%◌, ◌≤◌, zero-le}
use native.Mathlib.Omega.{arith}
use native.Mathlib.Nat.{le_refl}
use lib.ListN.{length, drop}
use lib.Seq.{get_or-drop}
use lib.Dec.{lit≤}
use Rattle.memory.specs.declared.Pointer.{Pointer}
use Rattle.memory.specs.Word.{when◌then◌else◌, bit, at}
use Rattle.memory.specs.Reading.{one_pointer}
use Rattle.memory.specs.Address.{null, ahead, further}
use Rattle.memory.proofs.ReadBounds.{Words, Reads, dones, weaken, bind, if-reads, words-read}
use Rattle.memory.proofs.Roles.{as-reads}
use Rattle.blocks.specs.declared.Segment.{Segment}
use Rattle.blocks.specs.declared.RowFormat.{RowFormat}
use Rattle.blocks.specs.RowBlock.{format_of, segment_of, segments_at, segment_roles, rest_of_block, block_at, row_block_at, window_row_at, redefined}

-- ---- row blocks ----
-- segments whose lengths fit a byte; at most n of them
abbrev pub Short : List Segment → Type 0
Short [] = Unit
Short (g ∷ gs) = (g.length ≤ 255) × Short gs

abbrev pub Few : ℕ → List Segment → Type 0
Few n gs = Short gs × (length gs ≤ n)

segments-short : (linear : Bool) (a n : ℕ) (b : List ℕ) → Words b → Few n (segments_at linear a n b)
unfolding segments_at segment_of
segments-short linear a zero b h = (tt, zero-le)
segments-short linear a (suc n) b h =
    let rest = segments-short linear (ahead linear 5 a) n (drop 5 b) (λ i. rw (get_or-drop 5 b i 0) (h (5 + i))) in
    ((omega (arith, h 4), rest.0), omega arith)

rest-reads : (linear : Bool) (p : Pointer) (head : List ℕ) (pointed : ℕ)
    → Reads (λ b. Few 15 b.segments) (75 + pointed) (rest_of_block linear p head pointed)
unfolding rest_of_block
rest-reads linear p head pointed =
    let n = at head 2 % 16 in
    bind {n = pointed} {k = 75} (omega arith) (as-reads one_pointer (words-read linear pointed (further linear 3 p))) λ re _.
    bind {n = 5 * n} {k = 0} (omega arith) (as-reads (segment_roles n) (words-read linear (5 * n) (further linear (3 + pointed) p))) λ gs h.
    let few = segments-short linear (ahead linear (3 + pointed) p.address) n gs h.0 in
    dones (few.0, omega arith)

pub block_reads : (linear redefines : Bool) (p : Pointer)
    → Reads (λ b. Few 15 b.segments) (78 + (when redefines then 2 else 0)) (block_at linear redefines p)
unfolding block_at
block_reads linear redefines p =
    if-reads (null p) (λ _. dones (tt, zero-le)) λ _.
    bind {n = 3} {k = 75 + (when redefines then 2 else 0)} (omega arith) (as-reads one_pointer (words-read linear 3 p)) λ head _.
    weaken (pointed redefines (bit 15 (at head 2))) (rest-reads linear p head _)
  where
    pointed : (r b : Bool) → 75 + (when r && b then 2 else 0) ≤ 75 + (when r then 2 else 0)
    pointed true true = le_refl 77
    pointed true false = lit≤ tt
    pointed false b = le_refl 75

pub row-block-reads : (linear : Bool) (p : Pointer) → Reads (λ b. Few 15 b.segments) 80 (row_block_at linear p)
unfolding row_block_at
row-block-reads linear p = block_reads linear true p

pub window-row-reads : (linear : Bool) (p : Pointer) → Reads (λ b. Few 15 b.segments) 78 (window_row_at linear p)
unfolding window_row_at
window-row-reads linear p = block_reads linear false p

-- ---- redefinitions ----
-- a row that has a scan line has one redefined
pub redefined-reads : (linear : Bool) (p : Pointer) (format : RowFormat)
    → Reads (λ t. 1 ≤ format.lines → 1 ≤ t.lines) 3 (redefined linear p format)
unfolding redefined format_of
redefined-reads linear p format =
    if-reads (null p) (λ _. dones (λ h. h)) λ _. bind {n = 3} {k = 0} (omega arith) (words-read linear 3 p) λ _ _. dones (λ _. omega arith)
