-- What the functions of this crate give, as what the rules give: no rules of their own.
use Rattle.std.specs.Prelude.{ℕ, ◌+◌, ◌-◌, ◌*◌, Bool, List, drop, Result, Ok, Err}
use Rattle.memory.specs.Word.{when◌then◌else◌, at}
use Rattle.memory.specs.declared.Pointer.{Pointer}
use Rattle.memory.specs.Reading.{Reading, done, ◌>>=◌, Outcome, given, refused, read_as, one_pointer}
use Rattle.memory.specs.Address.{pointer, ahead, further, words}
use Rattle.memory.specs.declared.Fault.{Fault}
use Rattle.blocks.specs.declared.MainBlock.{MainBlock}
use Rattle.blocks.specs.declared.RowFormat.{RowFormat}
use Rattle.blocks.specs.declared.Segment.{Segment}
use Rattle.blocks.specs.declared.SegmentCount.{SegmentCount}
use Rattle.blocks.specs.declared.BlockHead.{BlockHead}
use Rattle.blocks.specs.declared.FormatRead.{FormatRead}
use Rattle.blocks.specs.RowBlock.{RowBlock, segment_of, segments_at, segments_of}

-- the answer of `main_block` as an outcome
abbrev pub main_read : Result MainBlock Fault → Outcome MainBlock
main_read (Ok m) = given 7 m
main_read (Err x) = refused x

-- a row block, from what its reader gives and the words that it leaves of the segments
abbrev pub block_of : Bool → BlockHead → List ℕ → RowBlock
block_of linear h ws = record { link = h.link; redefinition = h.redefinition; segments = segments_of linear h.count ws }

-- the answer of a block's reader, with the words that it leaves of the segments, as an outcome. What these words are past the segments
-- counted, and after a refusal, is left free.
abbrev pub block_read : Bool → Result BlockHead Fault → List ℕ → Outcome RowBlock
block_read linear (Ok h) ws = given h.words (block_of linear h ws)
block_read linear (Err x) ws = refused x

-- how many words a redefinition pointer takes in a block; its reading, in the block at p; the answer of its reader as an outcome, after
-- the block's first three words
abbrev pub pointer_words : Bool → ℕ
pointer_words pointed = when pointed then 2 else 0

unfoldable pub redefinition_pointer : Bool → Pointer → ℕ → Reading Pointer
redefinition_pointer linear p n = do
  re ← read_as one_pointer (words linear n (further linear 3 p))
  done (pointer linear (ahead linear 3 p.address) (at re 0) (at re 1))

abbrev pub pointer_read : ℕ → Result Pointer Fault → Outcome Pointer
pointer_read n (Ok q) = given (3 + n) q
pointer_read n (Err x) = refused x

-- the answer of `redefinition` as an outcome
abbrev pub format_read : Result FormatRead Fault → Outcome RowFormat
format_read (Ok r) = given r.words r.format
format_read (Err x) = refused x

-- segment i of those counted, and those from i on, from the words of all
abbrev pub segment_in : Bool → SegmentCount → List ℕ → ℕ → Segment
segment_in linear count ws i = segment_of linear (ahead linear (5 * i) count.at) (drop (5 * i) ws)

abbrev pub segments_past : Bool → SegmentCount → List ℕ → ℕ → List Segment
segments_past linear count ws i = segments_at linear (ahead linear (5 * i) count.at) (count.number - i) (drop (5 * i) ws)
