-- What the functions of this crate give, as what the rules give: no rules of their own.
use Rattle.std.specs.Prelude.{ℕ, Bool, List, Result, Ok, Err}
use Rattle.memory.specs.declared.Fault.{Fault}
use Rattle.memory.specs.Reading.{Outcome, given, refused}
use Rattle.blocks.specs.Answers.{block_of}
use Rattle.background.specs.declared.BackgroundRead.{BackgroundRead}
use Rattle.background.specs.Background.{BackgroundRow}

-- the answer of `background_block` and of `background_row`, with the words of the segments, as an outcome. What these words are past the
-- segments counted, and after a refusal, is left free.
abbrev pub background_read : Bool → Result BackgroundRead Fault → List ℕ → Outcome BackgroundRow
background_read linear (Ok r) ws = given r.block.words (record { block = block_of linear r.block ws; format = r.format })
background_read linear (Err x) ws = refused x
