-- Document 01, "Marked examples": P1 to P12 and sheet S, with "Misreadings to shut out" and rows of states that no start gives,
-- as one computed statement.
use Rattle.std.specs.Prelude.{ℕ, ◌≡◌, refl, Bool, true, false, ◌&&◌, not, List, [], ◌∷◌, ◌++◌, replicate, take, drop, eqb, Option, Some, None, Result, Ok, Err}
use Rattle.std.specs.Int.Count.{ones, ones_in}
use Rattle.memory.specs.Reading.{◌>>=◌, read_as, each, run_from}
use Rattle.memory.specs.Address.{to, pointer, next_word, ahead, words}
use Rattle.memory.specs.declared.Refusal.{Refusal}
use Rattle.settings.specs.declared.Edition.{Edition}
use Rattle.settings.specs.declared.Edition.TheVariants.{Am8052, Z8052}
use Rattle.settings.specs.declared.Interlace.{Interlace}
use Rattle.settings.specs.declared.Interlace.TheVariants.{Progressive, RepeatField, Video}
use Rattle.settings.specs.declared.Settings.{Settings}
use Rattle.settings.specs.declared.Timing.{Timing}
use Rattle.settings.specs.Good.{good, check_settings}
use Rattle.settings.specs.Sheet.{sheet_of, sheet_call}
use Rattle.settings.specs.AfterEnable.{field_at, parts_of}
use Rattle.settings.specs.Timing.{clocks, timing, lines_for_rows, halved, invoking_codes}
use Rattle.settings.specs.declared.Sheet.{Sheet}
use Rattle.blocks.specs.Main.{main_block, main_block_at}
use Rattle.blocks.specs.RowBlock.{segment_of, segments_at, segment_roles, rest_of_block, block_at, row_block_at, window_row_at, format_of, redefined}
use Rattle.windows.specs.Window as W
use Rattle.state.specs.declared.State.{State}
use Rattle.state.specs.State as S
use Rattle.codes.specs.Attribute.{invokes, source_number, window_number, cell}
use Rattle.layout.specs.Layout.{width, total, all_fit, boundary, edges_fit, covered, on_side, segments_on}
use Rattle.layout.specs.Overlay.{window_row, overlaid}
use Rattle.background.specs.Background.{background_block, background_row}
use Rattle.plan.specs.Plan.{next_fields, plan}
use Rattle.codes.specs.Codes.{taking, put, character, examine, word_codes, codes}
use Rattle.windows.specs.declared.Window.{Window}
use Rattle.cells.specs.Cells.{filled, fill_by_word, fill_to, segment, segments_to, row_cells}
use Rattle.row.specs.Row.{Called, row, with_cursor, row_call}
use Rattle.start.specs.Top.{top_block}
use Rattle.start.specs.Start.{first_fields, window_start, start_from, start_call}
use Rattle.frame.specs.Step.{begin, step}
use Rattle.frame.specs.Frame.{within, rest, frame, handed_on}
use Rattle.joining.specs.declared.Part.{Part}
use Rattle.joining.specs.declared.Part.TheVariants.{Keep, Set, Refuse}
use Rattle.start.specs.declared.Started.{Started}
use Rattle.row.specs.declared.DrawnRow.{DrawnRow}
use Rattle.effect.specs.Effect.{outcome_for, effect_call}

-- ---- tests ----
same : List ℕ → List ℕ → Bool
same [] [] = true
same [] (y ∷ ys) = false
same (x ∷ xs) [] = false
same (x ∷ xs) (y ∷ ys) = eqb x y && same xs ys

pub every : List Bool → Bool
every [] = true
every (b ∷ bs) = b && every bs

-- an accepted row's number, lines, row attributes, CURS, CURE, words and cells; a refused row's number, row and addresses
shown_as : Result DrawnRow Refusal → List ℕ → List ℕ
shown_as (Ok r) cs = r.number ∷ r.lines ∷ r.format.attributes ∷ r.format.curs ∷ r.format.cure ∷ r.words ∷ cs
shown_as (Err r) cs = r.number ∷ r.row ∷ r.address ∷ r.from ∷ []

shown : Called → List ℕ
shown c = shown_as c.answer c.buffer

-- the cells from a column on, as many as said
cells_from : ℕ → ℕ → Called → List ℕ
cells_from column n c = take n (drop column c.buffer)

-- keep: nothing; set: the word; refuse: number, row and addresses
part_shown : Part → List ℕ
part_shown Keep = []
part_shown (Set w) = w ∷ []
part_shown (Refuse r) = r.number ∷ r.row ∷ r.address ∷ r.from ∷ []

-- sync, back porch, active, front porch, field
counts : Timing → List ℕ
counts t = t.sync ∷ t.back ∷ t.active ∷ t.front ∷ t.field ∷ []

-- the vertical counts of field n after enable, by a settings sheet, and its sync fall to blank rise; a refused sheet's number
times : ℕ → Result Sheet Refusal → List ℕ
times n (Ok s) = counts (parts_of s (field_at n))
times n (Err r) = r.number ∷ []

rises : ℕ → Result Sheet Refusal → List ℕ
rises n (Ok s) = (parts_of s (field_at n)).rise ∷ []
rises n (Err r) = []

-- ---- settings, states and memory ----
memory_settings : Bool → Bool → Bool → ℕ → ℕ → Settings
memory_settings linear hidden cursor flag tow = record {
  linear = linear;
  hidden = hidden;
  interlace = Progressive;
  cursor = cursor;
  flag = flag;
  top = record { first = 0; second = 0x10 };
  tow = record { first = 0; second = tow };
  vsw = 0;
  vsd = 0;
  val = 16;
  vtot = 20;
  hsync = 0;
  hsd = 1;
  htc = 7;
  htd = 5;
  edition = Am8052;
}

settings : Bool → Bool → ℕ → ℕ → Settings
settings hidden cursor flag tow = memory_settings true hidden cursor flag tow

-- sheet S: switches 11h, flag 8080
sheet_s : Settings
sheet_s = settings false true 0x8080 0

segmented_s : Settings
segmented_s = memory_settings false false true 0x8080 0

memory_s : List ℕ
memory_s =
    replicate 8 0 ++ (0 ∷ 0x20 ∷ 0x100 ∷ 0x20 ∷ 0 ∷ 0 ∷ 7 ∷ 0 ∷ [])
    ++ (0 ∷ 0x30 ∷ 1 ∷ 0 ∷ 0x60 ∷ 0 ∷ 0x70 ∷ 0x403 ∷ []) ++ replicate 24 0
    ++ (0x4180 ∷ 0x4281 ∷ []) ++ replicate 6 0 ++ (0x2000 ∷ 0x8002 ∷ []) ++ replicate 6 0

-- a state with these lines left, no fill flag, and the next row block at 20
state_at : ℕ → ℕ → ℕ → ℕ → Option Window → State
state_at latch attributes left row w = S.state_of latch (record {
  row = row;
  left = left;
  cursor = record { x = 0; y = 0 };
  fill = record { code = 0x20; flag = false };
  format = record { lines = 8; attributes = attributes; curs = 0; cure = 31 };
  next = to 0 0x20;
  window = w;
})

at : ℕ → Option Window → State
at row w = state_at 0 0 8 row w

state_of_start : Result Started Refusal → State
state_of_start (Ok r) = r.state
state_of_start (Err r) = at 0 None

words_of_start : Result Started Refusal → ℕ
words_of_start (Ok r) = r.words
words_of_start (Err r) = 0

state_after : Result DrawnRow Refusal → State
state_after (Ok r) = r.next
state_after (Err r) = at 0 None

buffer : List ℕ
buffer = replicate 132 0

-- the first row of a frame
first_row : Settings → List ℕ → Called
first_row σ m = row_call σ m (state_of_start (start_call 0 σ m)) buffer

-- the parts of the first row's effect, ignore clear and ignore set
clear_part : Settings → List ℕ → List ℕ
clear_part σ m = part_shown (effect_call σ m (state_of_start (start_call 0 σ m)).fields).effect.clear

set_part : Settings → List ℕ → List ℕ
set_part σ m = part_shown (effect_call σ m (state_of_start (start_call 0 σ m)).fields).effect.set

row0 : Called
row0 = first_row sheet_s memory_s

row1 : Called
row1 = row_call sheet_s memory_s (state_after row0.answer) buffer

-- a row of S from a state that no start gives: latch 0002, row attributes 3FF
odd_row : ℕ → ℕ → Option Window → List ℕ → Called
odd_row left row w cells = row_call sheet_s memory_s (state_at 2 0x3FF left row w) cells

padded : ℕ → List ℕ → List ℕ
padded n l = take n (l ++ replicate n 0)

-- memory with a main block at 10 whose M3 is `fill`, a row block at 20, codes at 60 and a list of attributes at E4
page : ℕ → List ℕ → List ℕ → List ℕ → List ℕ
page fill block codes list =
    replicate 8 0 ++ padded 8 (0 ∷ 0x20 ∷ 0 ∷ fill ∷ 0 ∷ 0 ∷ 7 ∷ []) ++ padded 32 block ++ padded 66 codes ++ padded 8 list

-- a row block of one segment, with the word of its lengths
one : ℕ → List ℕ
one lengths = 0 ∷ 0 ∷ 1 ∷ 0 ∷ 0x60 ∷ 0 ∷ 0xE4 ∷ lengths ∷ []

-- two segments without codes, of widths 100 and v
two : ℕ → List ℕ
two v = page 0x20 (0 ∷ 0 ∷ 2 ∷ 0 ∷ 0 ∷ 0 ∷ 0 ∷ 100 ∷ 0 ∷ 0 ∷ 0 ∷ 0 ∷ v ∷ []) [] []

plain : Settings
plain = settings false false 0x8080 0

-- two segments after a null redefinition pointer, the second with a code that invokes, and its list outside memory
listless : List ℕ
listless = page 0x20 (0 ∷ 0 ∷ 0x8002 ∷ 0 ∷ 0 ∷ 0 ∷ 0 ∷ 0 ∷ 0 ∷ 1 ∷ 0 ∷ 0x60 ∷ 0 ∷ 0x8000 ∷ 0x101 ∷ []) (0x8000 ∷ []) []

-- VSW 5, VSD 33, VAL 513, VTOT 518
timed : Edition → Interlace → ℕ → ℕ → Settings
timed edition mode flag htd = record {
  linear = true;
  hidden = false;
  interlace = mode;
  cursor = false;
  flag = flag;
  top = record { first = 0; second = 0 };
  tow = record { first = 0; second = 0 };
  vsw = 5;
  vsd = 33;
  val = 513;
  vtot = 518;
  hsync = 0;
  hsd = 1;
  htc = 7;
  htd = htd;
  edition = edition;
}

-- P8's are IV, and the same in the second edition
video : Edition → Settings
video edition = timed edition Video 0 5

-- P9: codes 41 80 42, L 3, V 2, word A000
nine : List ℕ
nine = page 0x20 (one 0x302) (0x4180 ∷ 0x4200 ∷ []) (0xA000 ∷ [])

-- P10: 132 codes 41, L and V 132, fill flag, list word 8004
ten : List ℕ
ten = page 0x120 (one 0x8484) (replicate 66 0x4141) (0x8004 ∷ [])

-- P12: a window block at 20, TOW of the start, on rows 3..3, columns 0 to 5
twelve : List ℕ
twelve = page 0 (0 ∷ 0 ∷ 0 ∷ 0 ∷ 0x303 ∷ 5 ∷ []) [] []

-- a window of this number on the rows n..n, columns 0 to right, whose next row block and next block are at these addresses
numbered : ℕ → ℕ → ℕ → ℕ → ℕ → Option Window
numbered number n right rows link =
    Some (record { block = record { number = number; top = n; bottom = n; left = 0; right = right; link = to 0 link }; rows = to 0 rows })

-- the first window, without segments
window_on : ℕ → ℕ → ℕ → Option Window
window_on n right link = numbered 0 n right 0 link

-- 02: row 3 in a window of columns 0 and 1 with this number, whose row block is the page's: one segment, the code 41
window_row3 : ℕ → Called
window_row3 number = row_call plain (page 0x20 (one 0x101) (0x4100 ∷ []) []) (at 3 (numbered number 3 1 0x20 0)) buffer

in_hand : Option Window → List ℕ
in_hand None = []
in_hand (Some w) = w.block.number ∷ w.block.top ∷ w.block.bottom ∷ w.block.left ∷ w.block.right ∷ []

-- the lines left after a row, and the window in hand
next_shown : Called → List ℕ
next_shown c = (state_after c.answer).fields.left ∷ in_hand (state_after c.answer).fields.window

-- ---- the statement ----
pub tests : List Bool
tests =
    -- P1
    invokes 0xE000 0x1F ∷ not (invokes 0xE000 0x20)
    -- P2
    ∷ invokes 0xFF7F 0x7F ∷ not (invokes 0xFF7F 0x7E)
    -- P3, and the wrap at FFFFFE. 02: the segmented halves of P3 and P4 are converter cases (converter: Cases)
    ∷ eqb (next_word true 0xFFFE) 0x10000 ∷ eqb (next_word false 0xFFFE) 0 ∷ eqb (next_word true 0xFFFFFE) 0
    -- P4
    ∷ eqb (pointer false 0 0x0123 0).address 0x10000 ∷ eqb (pointer true 0 0x0123 0).address 0x230000
    -- the start of S
    ∷ eqb (words_of_start (start_call 0 sheet_s memory_s)) 7
    -- P5
    ∷ same (shown row0) (0 ∷ 8 ∷ 0 ∷ 0 ∷ 31 ∷ 12 ∷ 0x100041 ∷ 0x500042 ∷ 0x100281 ∷ replicate 129 0x220)
    -- P6
    ∷ same (shown row1) (1 ∷ 8 ∷ 0 ∷ 0 ∷ 31 ∷ 3 ∷ replicate 132 0x220)
    -- S has two rows: then no lines are left
    ∷ same (shown (row_call sheet_s memory_s (state_after row1.answer) buffer)) (4 ∷ 2 ∷ 0 ∷ 0 ∷ [])
    -- 02: S hands on 8002, and the characters of its second frame have that underline; from a refused frame 1 is handed on as it was
    ∷ eqb (handed_on 0 (frame 0 sheet_s memory_s)) 0x8002
    ∷ same (cells_from 0 4 (row_call sheet_s memory_s (state_of_start (start_call 0x8002 sheet_s memory_s)) buffer)) (0x100241 ∷ 0x500242 ∷ 0x100281 ∷ 0x220 ∷ [])
    ∷ eqb (handed_on 1 (frame 1 plain (two 33))) 1
    -- 02: segmented, S is 17 in a row and in both parts of an effect, with the state's row
    ∷ same (shown (row_call segmented_s memory_s (at 5 None) buffer)) (17 ∷ 5 ∷ 0 ∷ 0 ∷ [])
    ∷ same (part_shown (effect_call segmented_s memory_s (at 5 None).fields).effect.clear) (17 ∷ 5 ∷ 0 ∷ 0 ∷ [])
    ∷ same (part_shown (effect_call segmented_s memory_s (at 5 None).fields).effect.set) (17 ∷ 5 ∷ 0 ∷ 0 ∷ [])
    -- P7, in both fields
    ∷ same (times 0 (sheet_call sheet_s)) (2 ∷ 2 ∷ 32 ∷ 8 ∷ 44 ∷ []) ∷ same (times 1 (sheet_call sheet_s)) (2 ∷ 2 ∷ 32 ∷ 8 ∷ 44 ∷ [])
    -- P8, in both fields
    ∷ same (times 0 (sheet_call (video Am8052))) (6 ∷ 34 ∷ 480 ∷ 5 ∷ 525 ∷ []) ∷ same (times 1 (sheet_call (video Am8052))) (6 ∷ 34 ∷ 480 ∷ 5 ∷ 525 ∷ [])
    -- 02: P8's settings in the second edition, field 0 even and field 1 odd; sync fall to blank rise there and in the first edition
    ∷ same (times 0 (sheet_call (video Z8052))) (6 ∷ 33 ∷ 480 ∷ 6 ∷ 525 ∷ []) ∷ same (times 1 (sheet_call (video Z8052))) (6 ∷ 34 ∷ 480 ∷ 5 ∷ 525 ∷ [])
    ∷ same (rises 0 (sheet_call (video Z8052))) (513 ∷ []) ∷ same (rises 1 (sheet_call (video Z8052))) (514 ∷ []) ∷ same (rises 0 (sheet_call (video Am8052))) (514 ∷ [])
    -- .. and in mode none
    ∷ same (times 0 (sheet_call (timed Z8052 Progressive 0 5))) (12 ∷ 68 ∷ 960 ∷ 10 ∷ 1050 ∷ [])
    -- 02: a value bit outside the mask is 2 in the second edition, in every mode, and good in the first
    ∷ same (times 0 (sheet_call (timed Z8052 Video 0x8081 5))) (2 ∷ []) ∷ same (times 0 (sheet_call (timed Z8052 Progressive 0x8081 5))) (2 ∷ [])
    ∷ good (timed Am8052 Video 0x8081 5) ∷ good (timed Z8052 Video 0x8180 5)
    -- 02: an even HTD when interlaced is 2 in the second edition, in a row too; it is good in mode none and in the first
    ∷ same (times 0 (sheet_call (timed Z8052 Video 0 4))) (2 ∷ []) ∷ same (shown (row_call (timed Z8052 RepeatField 0 4) memory_s (at 5 None) buffer)) (2 ∷ 5 ∷ 0 ∷ 0 ∷ [])
    ∷ good (timed Z8052 Progressive 0 4) ∷ good (timed Am8052 Video 0 4)
    -- P9
    ∷ same (cells_from 0 2 (first_row plain nine)) (0x100041 ∷ 0x20 ∷ [])
    ∷ same (cells_from 0 3 (first_row (settings true false 0x8080 0) nine)) (0x100041 ∷ 0x100080 ∷ 0x100042 ∷ [])
    -- P10
    ∷ same (clear_part plain ten) [] ∷ same (set_part plain ten) (0x8004 ∷ [])
    -- P11
    ∷ same (shown (first_row plain (two 32))) (0 ∷ 8 ∷ 0 ∷ 0 ∷ 31 ∷ 13 ∷ replicate 132 0x20)
    ∷ same (shown (first_row plain (two 33))) (10 ∷ 0 ∷ 0 ∷ 0 ∷ [])
    -- P12
    ∷ same (in_hand (state_of_start (start_call 0 (settings false false 0x8080 0x20) twelve)).fields.window) (0 ∷ 3 ∷ 3 ∷ 0 ∷ 5 ∷ [])
    ∷ same (shown (row_call plain twelve (at 4 (window_on 3 5 0x20)) buffer)) (8 ∷ 4 ∷ 0 ∷ 0 ∷ [])
    -- 02: the next window has one more, though the first was not shown; a cell of a window names it, the fill inside it does not; a number
    -- above its window's first row is 3
    ∷ same (next_shown (row_call plain twelve (at 3 (window_on 2 5 0x20)) buffer)) (0 ∷ 1 ∷ 3 ∷ 3 ∷ 0 ∷ 5 ∷ [])
    ∷ same (cells_from 0 3 (window_row3 3)) (0x3200041 ∷ 0x20 ∷ 0x20 ∷ [])
    ∷ same (shown (window_row3 4)) (3 ∷ 3 ∷ 0 ∷ 0 ∷ [])
    -- the codes that invoke: 128 of S's, 32 of the mask E0, all 256 of the mask 0
    ∷ eqb (invoking_codes 0x8080) 128 ∷ eqb (invoking_codes 0xE000) 32 ∷ eqb (invoking_codes 0x00FF) 256
    -- misreading: an unlatched word ends a latched ignore. 80 latches A000 and is out, 41 is out, 80 has 0001, 42 is out again
    ∷ same (cells_from 0 2 (first_row plain (page 0x20 (one 0x404) (0x8041 ∷ 0x8042 ∷ []) (0xA000 ∷ 1 ∷ [])))) (0x100180 ∷ 0x20 ∷ [])
    -- misreading: the latch of a dropped character is skipped. 80 has no room, and its 8004 is in the fill after it
    ∷ same (cells_from 0 2 (first_row plain (page 0x20 (one 0x201) (0x4180 ∷ []) (0x8004 ∷ [])))) (0x100041 ∷ 0x420 ∷ [])
    -- misreading: segments under a window are read for their attributes. The block's 8 words are all, and 8004 is not the latch
    ∷ same (shown (row_call plain (page 0x20 (one 0x202) (0x8041 ∷ []) (0x8004 ∷ [])) (at 0 (window_on 0 1 0)) buffer)) (0 ∷ 8 ∷ 0 ∷ 0 ∷ 31 ∷ 8 ∷ replicate 132 0x20)
    -- misreading: a row effect is taken from ignore clear only. S's row 0 sets 8002 from both; P10's parts differ (above)
    ∷ same (clear_part sheet_s memory_s) (0x8002 ∷ []) ∷ same (set_part sheet_s memory_s) (0x8002 ∷ [])
    -- a window that passed long ago, whose next block is null: the row has no window, and none is left
    ∷ same (shown (odd_row 8 200 (window_on 2 3 0) buffer)) (200 ∷ 8 ∷ 0x3FF ∷ 0 ∷ 31 ∷ 12 ∷ 0x100241 ∷ 0x100242 ∷ 0x100281 ∷ replicate 129 0x220)
    ∷ same (next_shown (odd_row 8 200 (window_on 2 3 0) buffer)) (0 ∷ [])
    -- the last line, in the last row that a state can have; one row further, row and lines left sum to 4096
    ∷ same (shown (odd_row 1 4094 None buffer)) (4094 ∷ 1 ∷ 0x3FF ∷ 0 ∷ 31 ∷ 12 ∷ 0x100241 ∷ 0x100242 ∷ 0x100281 ∷ replicate 129 0x220)
    ∷ same (next_shown (odd_row 1 4094 None buffer)) (0 ∷ [])
    ∷ same (shown (odd_row 1 4095 None buffer)) (3 ∷ 4095 ∷ 0 ∷ 0 ∷ [])
    -- .. and with no line left there it is 4, as anywhere: 02 has withdrawn 5
    ∷ same (shown (odd_row 0 4095 None buffer)) (4 ∷ 4095 ∷ 0 ∷ 0 ∷ [])
    -- 02: a refusal 7 tells where the pointer in use begins. The row block is at 20: a redefinition pointer begins at 26, as a first code
    -- pointer does where there is none; after one, the second segment's attribute pointer at 38. Both parts of an effect tell it too
    ∷ same (shown (first_row plain (page 0x20 (0 ∷ 0 ∷ 0x8000 ∷ 0 ∷ 0x8000 ∷ []) [] []))) (7 ∷ 0 ∷ 0x8000 ∷ 0x26 ∷ [])
    ∷ same (shown (first_row plain (page 0x20 (0 ∷ 0 ∷ 1 ∷ 0 ∷ 0x8000 ∷ 0 ∷ 0 ∷ 0x101 ∷ []) [] []))) (7 ∷ 0 ∷ 0x8000 ∷ 0x26 ∷ [])
    ∷ same (shown (first_row plain listless)) (7 ∷ 0 ∷ 0x8000 ∷ 0x38 ∷ [])
    ∷ same (clear_part plain listless) (7 ∷ 0 ∷ 0x8000 ∷ 0x38 ∷ []) ∷ same (set_part plain listless) (7 ∷ 0 ∷ 0x8000 ∷ 0x38 ∷ [])
    -- a row buffer of 131 cells
    ∷ same (shown (odd_row 8 0 None (replicate 131 0))) (1 ∷ 0 ∷ 0 ∷ 0 ∷ [])
    ∷ []

pub marked : every tests ≡ true
unfolding same every shown_as shown cells_from part_shown counts times rises memory_settings settings sheet_s segmented_s memory_s state_at at state_of_start words_of_start state_after buffer first_row clear_part set_part row0 row1 odd_row padded page one two plain listless timed video nine ten twelve numbered window_on window_row3 in_hand next_shown tests read_as ◌>>=◌ each run_from pointer next_word ahead words good check_settings timing lines_for_rows clocks halved invoking_codes sheet_of sheet_call ones ones_in main_block main_block_at segment_of segments_at segment_roles rest_of_block block_at row_block_at window_row_at format_of redefined W.window_of W.window_at W.first_window W.due_window S.window_in_range S.in_range invokes source_number window_number cell width total all_fit boundary edges_fit covered on_side segments_on window_row overlaid next_fields background_block background_row plan taking put character examine word_codes codes filled fill_by_word fill_to segment segments_to row_cells row with_cursor row_call top_block first_fields window_start start_from start_call begin step within rest frame outcome_for effect_call
marked = refl
