-- Document 02, "Mending damaged lists": which pointer a refusal blames.
use Rattle.std.specs.Prelude.{ℕ, zero, suc, ◌/◌, Bool, ◌&&◌, ◌||◌, List, get_or, ltb, leb, eqb, Option, Some, None}
use Rattle.memory.specs.Word.{when◌then◌else◌}
use Rattle.memory.specs.declared.Fault.{Fault}
use Rattle.memory.specs.Address.{next_word}
use Rattle.memory.specs.Reading.{Reading, ◌>>◌, Outcome, given, refused, refusal, run}
use Rattle.settings.specs.declared.Settings.{Settings}
use Rattle.settings.specs.Good.{check_settings}
use Rattle.blocks.specs.declared.MainBlock.{MainBlock}
use Rattle.windows.specs.declared.Window.{Window}
use Rattle.state.specs.declared.State.{State}
use Rattle.state.specs.State.{state_of}
use Rattle.start.specs.Top.{top_block}
use Rattle.start.specs.Start.{start_from}
use Rattle.row.specs.Row.{Row, row}
use Rattle.blame.specs.declared.Place.{Place}
use Rattle.blame.specs.declared.Place.TheVariants.{Register, Memory}
use Rattle.blame.specs.declared.Verdict.{Verdict}
use Rattle.blame.specs.declared.Verdict.TheVariants.{Whole, Blamed, Refused}

-- the two words of the pointer at a place: a register's, or those of memory from an address on, "the next word" after it
abbrev pub first_word : Place → Settings → List ℕ → ℕ
first_word Register σ m = σ.tow.first
first_word (Memory a) σ m = get_or m (a / 2) 0

abbrev pub second_word : Place → Settings → List ℕ → ℕ
second_word Register σ m = σ.tow.second
second_word (Memory a) σ m = get_or m (next_word σ.linear a / 2) 0

-- "for 8, 11 and 12 the one that led to the window": to the window in hand on a row. The next window block is read where the row has passed
-- this one's last row; then it is this one's link, before that the one that led to this one.
unfoldable pub leader : ℕ → Option Window → Place → Place
leader row None led = led
leader row (Some w) led = when ltb w.block.bottom row then Memory w.block.link.from else led

-- "for 7 the pointer in use, for 13 the attribute pointer in use, for 9 and 10 the one that led to the row block or window row block": it
-- begins where the refusal on its way up says, and so does the one that led to a window refused 8. For 11 and 12 it is the one that led to
-- the window in hand.
unfoldable pub blamed : Place → Fault → Place
blamed led x = when eqb x.number 11 || eqb x.number 12 then led else Memory x.from

-- a row of a frame has no other refusal than these (`RowStands.row-stands`)
abbrev pub mendable : ℕ → Bool
mendable n = leb 7 n && leb n 13

-- a refused row
abbrev pub refused_row : Place → ℕ → Fault → Verdict
refused_row led number x = when mendable x.number then Blamed (blamed led x) x.number else Refused (refusal number x)

-- the state after a row
abbrev pub next_state : Row → State
next_state r = state_of r.drawing.pen.latch r.next

-- a row, and what comes after it; `led` led to the window in hand on this row
abbrev pub by_row : (Place → State → Verdict) → Place → ℕ → Outcome Row → Verdict
by_row rest led number (given n r) = rest led (next_state r)
by_row rest led number (refused x) = refused_row led number x

-- n rows at most, from a state on; `led` led to its window in hand
unfoldable pub rows_within : ℕ → Settings → List ℕ → Place → State → Verdict
rows_within zero σ m led s = Whole
rows_within (suc n) σ m led s =
    when eqb s.fields.left 0
    then Whole
    else by_row (rows_within n σ m) (leader s.fields.row s.fields.window led) s.fields.row (run m (row σ s))

-- "the lines run out": as many rows as lines are left are enough
unfoldable pub rows : Settings → List ℕ → Place → State → Verdict
rows σ m led s = rows_within s.fields.left σ m led s

-- "2, 6, 14, 17 and 7 on a main block": the refusals of a start up to its main block
unfoldable pub main_of : Settings → Reading MainBlock
main_of σ = check_settings σ >> top_block σ.linear σ.top

-- their numbers (`Frames.main-numbers`)
abbrev pub as_it_is : ℕ → Bool
as_it_is n = eqb n 2 || eqb n 6 || eqb n 7 || eqb n 14 || eqb n 17

-- .. "are given as they are". What a start then still refuses, 7 and 8, is the first window's: TOW led to it.
abbrev pub by_start : Settings → List ℕ → Outcome MainBlock → Outcome State → Verdict
by_start σ m (refused x) o = Refused (refusal 0 x)
by_start σ m (given n b) (refused x) = Blamed Register x.number
by_start σ m (given n b) (given k s) = rows σ m Register s

-- what drawing a frame from a latch comes to: to its end, or to a refusal with the pointer to blame, or to one that is given as it is
unfoldable pub verdict : ℕ → Settings → List ℕ → Verdict
verdict latch σ m = by_start σ m (run m (main_of σ)) (run m (start_from latch σ))
