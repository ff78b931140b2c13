-- What a row does to the latch, without its cells. Where no fill run takes a word, only the codes of its segments take words, and
-- the latch becomes the last of them that has bit 15.
use Rattle.std.specs.Prelude.{ℕ, zero, suc, ◌+◌, ◌/◌, ◌≡◌, ◌&&◌, List, [], ◌∷◌, length, get_or}
use Rattle.memory.specs.Word.{when◌then◌else◌, high, low}
use Rattle.memory.specs.Reading.{Outcome, given, refused, run_from}
use Rattle.memory.specs.Answers.{is_run}
use Rattle.codes.specs.declared.CodeSettings.{CodeSettings}
use Rattle.blocks.specs.declared.FillMode.{FillMode}
use Rattle.blocks.specs.declared.Segment.{Segment}
use Rattle.memory.specs.Address.{null}
use Rattle.layout.specs.declared.Side.TheVariants.{Before, After}
use Rattle.layout.specs.Layout.{Overlay, none, over, segments_on}
use Rattle.codes.specs.Attribute.{invokes, latches}
use Rattle.codes.specs.Codes.{Drawing, blank}
use Rattle.cells.specs.Cells.{code_count, row_cells}
use Rattle.latch.specs.declared.LatchEffect.{LatchEffect}
use Rattle.latch.specs.declared.LatchEffect.TheVariants.{Kept, Latched, Unclear}

-- the latch over one part of a row, and then over the next
abbrev pub join : LatchEffect → LatchEffect → LatchEffect
join Kept g = g
join Unclear g = Unclear
join (Latched w) Kept = Latched w
join (Latched w) (Latched v) = Latched v
join (Latched w) Unclear = Unclear

-- the words that a code takes of its segment's list
abbrev pub takes : ℕ → ℕ → ℕ
takes flag code = when invokes flag code then 1 else 0

-- those that n codes take, which stand in memory from word number `at` on
unfoldable pub invoking : ℕ → List ℕ → ℕ → ℕ → ℕ
invoking flag m at zero = 0
invoking flag m at (suc zero) = takes flag (high (get_or m at 0))
invoking flag m at (suc (suc n)) =
    takes flag (high (get_or m at 0)) + takes flag (low (get_or m at 0)) + invoking flag m (at + 1) n

-- the last of k words with bit 15, from word number `at` on
unfoldable pub last_latched : List ℕ → ℕ → ℕ → LatchEffect
last_latched m at zero = Kept
last_latched m at (suc k) = when latches (get_or m (at + k) 0) then Latched (get_or m (at + k) 0) else last_latched m at k

module _ (σ : CodeSettings) (m : List ℕ) where
  -- "A code invokes an attribute when .. its segment's attribute pointer is not null"
  unfoldable pub taken : Segment → ℕ
  taken g = when null g.attributes then 0 else invoking σ.flag m (g.codes.address / 2) (code_count g)

  -- unclear unless the words of its codes, and those they take, each stand one after the other in memory
  unfoldable pub over_segment : Segment → LatchEffect
  over_segment g =
      when is_run σ.linear (length m) g.codes.address ((code_count g + 1) / 2) && is_run σ.linear (length m) g.attributes.address (taken g)
      then last_latched m (g.attributes.address / 2) (taken g)
      else Unclear

  unfoldable pub over_segments : List Segment → LatchEffect
  over_segments [] = Kept
  over_segments (g ∷ gs) = join (over_segment g) (over_segments gs)

  -- the segments in the order of `row_cells`
  unfoldable pub over_parts : Overlay → List Segment → LatchEffect
  over_parts none gs = over_segments gs
  over_parts (over number first end ws) gs =
      join (join (over_segments (segments_on (Before first) σ.hidden 0 gs)) (over_segments ws))
      (over_segments (segments_on (After first end) σ.hidden 0 gs))

  -- unclear with the fill flag, whose runs depend on the cells drawn
  unfoldable pub over_row : FillMode → Overlay → List Segment → LatchEffect
  over_row fill o gs = when fill.flag then Unclear else over_parts o gs

-- what a drawing has made of the latch in the end; a refused one says nothing
abbrev pub ending : Outcome Drawing → LatchEffect
ending (given n d) = when d.pen.latched then Latched d.pen.latch else Kept
ending (refused x) = Unclear

-- what is told, or the other where that is unclear
abbrev pub or_else : LatchEffect → LatchEffect → LatchEffect
or_else Kept e = Kept
or_else (Latched w) e = Latched w
or_else Unclear e = e

-- a row ends as told, where that is clear, from any latch and whatever was read before
abbrev pub AsDrawn : CodeSettings → List ℕ → FillMode → Overlay → List Segment → LatchEffect → Type 0
AsDrawn σ m fill o gs r =
    (n latch : ℕ) → or_else r (ending (run_from n m (row_cells σ fill o gs (blank latch)))) ≡ ending (run_from n m (row_cells σ fill o gs (blank latch)))
