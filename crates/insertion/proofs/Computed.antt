-- A screen of four rows of three lines, A B C D, the last cut to two lines, and lines inserted in it, computed: those of examples/insert-before.script and
-- insert-after.script among them. There is a screen that lacks each hypothesis alone, and on which a row moves otherwise, but for these: words of a slice have
-- 16 bits; a word read for something else and the link followed twice matter where they are so in both frames. In the old one alone it is the last row, which
-- falls off, in the new one alone the new row, and the screens with these move as said.
use Prim.Native.Nat.{ℕ, suc, ◌*◌}
use mathlib.Core.Path.{◌≡◌, refl}
use mathlib.Core.Bool.{Bool, true, false, ◌&&◌, not}
use mathlib.Core.List.{List, [], ◌∷◌, ◌++◌}
use mathlib.Core.Option.{Option, none, some}
use lib.ListN.{length, replicate, take, drop, get_elem?}
use lib.ListN as Words
use lib.Dec.{eqb}
use Rattle.memory.specs.Word.{when◌then◌else◌}
use Rattle.memory.specs.Reading.{◌>>=◌, read_as, each, run_from, asked}
use Rattle.memory.specs.Address.{pointer, next_word, ahead, words}
use Rattle.settings.specs.declared.Edition.TheVariants.{Am8052}
use Rattle.settings.specs.declared.Interlace.TheVariants.{Progressive}
use Rattle.settings.specs.declared.Settings.{Settings}
use Rattle.settings.specs.Good.{good, check_settings}
use Rattle.settings.specs.Timing.{lines_for_rows}
use Rattle.blocks.specs.Main.{main_block, main_block_at}
use Rattle.blocks.specs.RowBlock.{segment_of, segments_at, segment_roles, rest_of_block, block_at, row_block_at, window_row_at, format_of, redefined}
use Rattle.windows.specs.Window as W
use Rattle.state.specs.declared.State.{State}
use Rattle.state.specs.State as S
use Rattle.codes.specs.Attribute.{invokes, source_number, window_number, cell}
use Rattle.layout.specs.Layout.{width, total, all_fit, boundary, edges_fit, covered, on_side, segments_on}
use Rattle.layout.specs.Overlay.{window_row, overlaid}
use Rattle.background.specs.Background.{background_block, background_row}
use Rattle.plan.specs.Plan.{next_fields, plan}
use Rattle.codes.specs.Codes.{taking, put, character, examine, word_codes, codes}
use Rattle.cells.specs.Cells.{filled, fill_by_word, fill_to, segment, segments_to, row_cells}
use Rattle.row.specs.Row.{row, with_cursor, row_call}
use Rattle.start.specs.Top.{top_block}
use Rattle.start.specs.Start.{first_fields, window_start, start_from}
use Rattle.frame.specs.Step.{begin, step}
use Rattle.frame.specs.Frame.{FrameRow, within, rest, frame}
use Rattle.joining.specs.declared.Effect.{Effect}
use Rattle.joining.specs.Join.{empty}
use Rattle.effect.specs.Effect.{outcome_for, effect_call}
use Rattle.insertion.specs.Followed.{called_on, states, times_followed, first_followed, block_words, apart, all_apart, rows_else, read_else, no_redefinition}
use Rattle.insertion.specs.Insertion.{changed, cells_of, lines_of, place_of}
use Rattle.insertion.specs.Tests.{every, words_fit, same_from, frame_tests, both_tests, passes}

-- ---- screens ----

-- TOW's second word, the cursor, lines for rows
settings : ℕ → Bool → ℕ → Settings
settings tow cursor lines = record {
  linear = true;
  hidden = false;
  interlace = Progressive;
  cursor = cursor;
  flag = 0x8080;
  top = record { first = 0; second = 0x10 };
  tow = record { first = 0; second = tow };
  vsw = 0;
  vsd = 0;
  val = lines;
  vtot = lines;
  hsync = 0;
  hsd = 1;
  htc = 13;
  htd = 13;
  edition = Am8052;
}

-- a row block of one segment of n codes
block : (link codes list n : ℕ) → List ℕ
block link codes list n = 0 ∷ link ∷ 1 ∷ 0 ∷ codes ∷ 0 ∷ list ∷ n * 257 ∷ []

-- Eight words a line: the main block at 10, three lines a row, cursor X 0 and Y 2; row blocks at 20 (A), 30 (B), 40 (C) and 50 (D), with the codes of A and the
-- links of the main block and of B, C and D as said; the new block at 60; what else is wanted at 70.
-- Codes: STORM 10 at 80, where code D3 latches 8002, the underline; WIND NW 9, SEA HIGH, PORTS SHUT; GUSTS 11 at C0, and at C8 with code C7, which latches 8001,
-- the blink. Attribute words at D0.
screen : (codes first b c d : ℕ) → (inserted spare : List ℕ) → List ℕ
screen codes first b c d inserted spare =
    replicate 8 0 ++ (0 ∷ first ∷ 2 ∷ 0x20 ∷ 0 ∷ 0 ∷ 2 ∷ 0 ∷ [])
    ++ block 0x30 codes 0xD0 8 ++ block b 0x90 0 9 ++ block c 0xA0 0 8 ++ block d 0xB0 0 10
    ++ inserted ++ spare
    ++ (0xD354 ∷ 0x4F52 ∷ 0x4D20 ∷ 0x3130 ∷ 0 ∷ 0 ∷ 0 ∷ 0 ∷ [])
    ++ (0x5749 ∷ 0x4E44 ∷ 0x204E ∷ 0x5720 ∷ 0x3920 ∷ 0 ∷ 0 ∷ 0 ∷ [])
    ++ (0x5345 ∷ 0x4120 ∷ 0x4849 ∷ 0x4748 ∷ 0 ∷ 0 ∷ 0 ∷ 0 ∷ [])
    ++ (0x504F ∷ 0x5254 ∷ 0x5320 ∷ 0x5348 ∷ 0x5554 ∷ 0 ∷ 0 ∷ 0 ∷ [])
    ++ (0x4755 ∷ 0x5354 ∷ 0x5320 ∷ 0x3131 ∷ 0xC755 ∷ 0x5354 ∷ 0x5320 ∷ 0x3131 ∷ [])
    ++ (0x8002 ∷ 0x8002 ∷ 0x8001 ∷ 0x8001 ∷ 0 ∷ 0 ∷ 0 ∷ 0 ∷ [])

pub free : List ℕ
free = replicate 8 0

-- the new row GUSTS 11, which keeps the latch, or sets it; both with this link
keeping : ℕ → List ℕ
keeping link = block link 0xC0 0xD4 8

setting : ℕ → List ℕ
setting link = block link 0xC8 0xD4 8

pub plain : Settings
plain = settings 0 false 11

-- the screen, with these words at 70; and a line below B, at the link in its block
pub old : List ℕ → List ℕ
old spare = screen 0x80 0x20 0x40 0x50 0 free spare

pub kept : List ℕ → List ℕ
kept spare = screen 0x80 0x20 0x60 0x50 0 (keeping 0x40) spare

pub set : List ℕ
set = screen 0x80 0x20 0x60 0x50 0 (setting 0x40) free

-- a line as the first row, by M0,M1
pub topmost : List ℕ
topmost = screen 0x80 0x60 0x40 0x50 0 (setting 0x20) free

-- a line below D, whose link is null, on a screen of eight rows
pub taller : Settings
taller = settings 0 false 24

pub lowest : List ℕ
lowest = screen 0x80 0x20 0x40 0x50 0x60 (setting 0) free

-- the fill flag set in M3, soft scroll enabled in M4
flagged : List ℕ → List ℕ
flagged m = Words.set (Words.set m 11 0x120) 12 0x4000

-- ---- what is seen ----

same : List ℕ → List ℕ → Bool
same [] [] = true
same [] (y ∷ ys) = false
same (x ∷ xs) [] = false
same (x ∷ xs) (y ∷ ys) = eqb x y && same xs ys

-- one list of rows is the front of another
front : List (List ℕ) → List (List ℕ) → Bool
front [] ys = true
front (x ∷ xs) [] = false
front (x ∷ xs) (y ∷ ys) = same x y && front xs ys

-- from the start latch 0
abbrev pub rows_of : Settings → List ℕ → List FrameRow
rows_of σ m = (frame 0 σ m).rows

abbrev lines : Settings → List ℕ → List ℕ
lines σ m = lines_of (rows_of σ m)

-- the first two cells of each row
seen : Settings → List ℕ → List ℕ
seen σ m = firsts (cells_of (rows_of σ m))
  where
    firsts : List (List ℕ) → List ℕ
    firsts [] = []
    firsts (r ∷ rs) = take 2 r ++ firsts rs

-- do the rows above keep their cells, and have those below the cells of the former row one higher?
above : Settings → ℕ → List ℕ → List ℕ → Bool
above σ link m n = let place = place_of 0 σ link m in front (take place (cells_of (rows_of σ n))) (take place (cells_of (rows_of σ m)))

below : Settings → ℕ → List ℕ → List ℕ → Bool
below σ link m n = let place = place_of 0 σ link m in front (drop (suc place) (cells_of (rows_of σ n))) (drop place (cells_of (rows_of σ m)))

-- the tests that fail, by number: 0 window, 1 cursor, 2 and 3 the link, 4 taken over, 5 other words; of the old frame 6 words, 7
-- redefinition, 8 read for something else, 9 followed twice, 10 refused; of the new one 11 to 15
failed : ℕ → List Bool → List ℕ
failed k [] = []
failed k (b ∷ bs) = when b then failed (suc k) bs else k ∷ failed (suc k) bs

fails : Settings → ℕ → List ℕ → List ℕ → List ℕ
fails σ link m n =
    failed 0 (both_tests σ link m n ++ frame_tests 0 σ link (changed σ link n) 0 m ++ frame_tests 0 σ link (changed σ link n) (length (block_words σ link n)) n)

-- the effect of a row that is there
unfoldable pub effect_at : Settings → List ℕ → Option State → Option Effect
effect_at σ m none = none
effect_at σ m (some s) = some (effect_call σ m s.fields).effect

-- ---- hypotheses left out ----

-- a window block on row 2, columns 0 to 7; a redefinition to eight lines, and a new block without segments that points at it
window : List ℕ
window = 0 ∷ 0 ∷ 0 ∷ 0 ∷ 0x202 ∷ 7 ∷ 0 ∷ 0 ∷ []

eight : List ℕ
eight = 0 ∷ 7 ∷ 0x1F ∷ 0 ∷ 0 ∷ 0 ∷ 0 ∷ 0 ∷ []

redefining : List ℕ
redefining = screen 0x80 0x20 0x60 0x50 0 (0 ∷ 0x40 ∷ 0x8000 ∷ 0 ∷ 0x70 ∷ 0 ∷ 0 ∷ 0 ∷ []) eight

-- C links to B again
looped : List ℕ
looped = screen 0x80 0x20 0x40 0x30 0 free free

looped_kept : List ℕ
looped_kept = screen 0x80 0x20 0x60 0x30 0 (keeping 0x40) free

-- A's codes stand in the new block; in B's link
in_block : List ℕ
in_block = screen 0x62 0x20 0x40 0x50 0 free free

in_block_kept : List ℕ
in_block_kept = screen 0x62 0x20 0x60 0x50 0 (keeping 0x40) free

in_link : List ℕ
in_link = screen 0x32 0x20 0x40 0x50 0 free free

in_link_kept : List ℕ
in_link_kept = screen 0x32 0x20 0x60 0x50 0 (keeping 0x40) free

-- the new block does not take over B's link; C's codes are changed too
astray : List ℕ
astray = screen 0x80 0x20 0x60 0x50 0 (keeping 0x50) free

retyped : List ℕ
retyped = Words.set (kept free) 0x50 0x5365

-- a redefinition to one line, and D without segments that points at it
one : List ℕ
one = 0 ∷ 0 ∷ 0x1F ∷ 0 ∷ 0 ∷ 0 ∷ 0 ∷ 0 ∷ []

redefined_d : List ℕ → List ℕ
redefined_d m = Words.set (Words.set m 0x2A 0x8000) 0x2C 0x70

-- the words at 0 and 2 point at the new block; they are those of a link that takes over B's, which is this one
unheld : List ℕ
unheld = Words.set (screen 0x80 0x20 0x40 0x50 0 (keeping 0) free) 1 0x60

with_null : ℕ → List ℕ
with_null b = Words.set (screen 0x80 0x20 b 0x50 0 free free) 1 0x40

-- L 7 and V 8 in the new block; in D
broken : List ℕ
broken = Words.set (kept free) 0x37 0x708

broken_d : List ℕ → List ℕ
broken_d m = Words.set m 0x2F 0x708

-- B's link with the bits set that a linear pointer ignores
ignoring : List ℕ
ignoring = Words.set (Words.set (kept free) 0x30 0xFF00) 0x31 0x41

-- codes in the new block: D's, the new row's
codes_d : List ℕ → List ℕ
codes_d m = Words.set m 0x2C 0x62

itself : List ℕ
itself = Words.set (kept free) 0x34 0x62

-- ---- the computed statement ----

pub tests : List Bool
tests =
    -- the rows: A B C D; A B GUSTS C; and with the row that sets the latch, C's underline is a blink. D has fallen off, and the last row is cut
    same (seen plain (old free)) (0x1002D3 ∷ 0x100254 ∷ 0x100257 ∷ 0x100249 ∷ 0x100253 ∷ 0x100245 ∷ 0x100250 ∷ 0x10024F ∷ [])
    ∷ same (seen plain (kept free)) (0x1002D3 ∷ 0x100254 ∷ 0x100257 ∷ 0x100249 ∷ 0x100247 ∷ 0x100255 ∷ 0x100253 ∷ 0x100245 ∷ [])
    ∷ same (seen plain set) (0x1002D3 ∷ 0x100254 ∷ 0x100257 ∷ 0x100249 ∷ 0x1001C7 ∷ 0x100155 ∷ 0x100153 ∷ 0x100145 ∷ [])
    ∷ same (lines plain (old free)) (3 ∷ 3 ∷ 3 ∷ 2 ∷ []) ∷ same (lines plain (kept free)) (3 ∷ 3 ∷ 3 ∷ 2 ∷ [])
    ∷ above plain 0x30 (old free) (kept free) ∷ below plain 0x30 (old free) (kept free) ∷ above plain 0x30 (old free) set ∷ not (below plain 0x30 (old free) set)
    -- the fill flag and soft scroll are no matter
    ∷ passes 0 plain 0x30 (flagged (old free)) (flagged (kept free))
    -- a window: 0 alone fails, and C, which it covered, stands below it now
    ∷ same (fails (settings 0x70 false 11) 0x30 (old window) (kept window)) (0 ∷ []) ∷ not (below (settings 0x70 false 11) 0x30 (old window) (kept window))
    -- the cursor on row 2: 1 alone fails, and C loses its mark
    ∷ same (fails (settings 0 true 11) 0x30 (old free) (kept free)) (1 ∷ []) ∷ not (below (settings 0 true 11) 0x30 (old free) (kept free))
    -- the old link not taken over: 4 alone fails, and D follows
    ∷ same (fails plain 0x30 (old free) astray) (4 ∷ []) ∷ not (below plain 0x30 (old free) astray)
    -- another word changed: 5 alone fails, and C is written otherwise
    ∷ same (fails plain 0x30 (old free) retyped) (5 ∷ []) ∷ not (below plain 0x30 (old free) retyped)
    -- a redefinition: 12 alone fails, and the rows have other lines; on D, which falls off, 7 alone
    ∷ same (fails plain 0x30 (old eight) redefining) (12 ∷ []) ∷ same (lines plain redefining) (3 ∷ 3 ∷ 5 ∷ [])
    ∷ same (fails plain 0x30 (redefined_d (old one)) (redefined_d (kept one))) (7 ∷ []) ∷ same (lines plain (redefined_d (old one))) (3 ∷ 3 ∷ 3 ∷ 1 ∷ 1 ∷ [])
    -- the link at address 0, where no block is: 2 alone fails, and no row is new; a link that is null then: 3 alone, and C does not follow
    ∷ same (fails (settings 0 false 18) 0 (old free) unheld) (2 ∷ []) ∷ same (seen (settings 0 false 18) unheld) (seen (settings 0 false 18) (old free))
    ∷ same (fails plain 0x30 (with_null 0x40) (with_null 0)) (3 ∷ []) ∷ not (below plain 0x30 (with_null 0x40) (with_null 0))
    -- a frame refused, the new one on its new row, the old one on D: 15 alone and 10 alone fail, and there are fewer rows
    ∷ same (fails plain 0x30 (old free) broken) (15 ∷ []) ∷ same (lines plain broken) (3 ∷ 3 ∷ [])
    ∷ same (fails plain 0x30 (broken_d (old free)) (broken_d (kept free))) (10 ∷ []) ∷ same (lines plain (broken_d (old free))) (3 ∷ 3 ∷ 3 ∷ [])
    -- bits of the new block's link that a pointer ignores are no matter
    ∷ passes 0 plain 0x30 (old free) ignoring ∷ below plain 0x30 (old free) ignoring
    -- the link followed twice on eight rows: 9 and 14 fail, and the new row comes twice; on four rows it is followed once
    ∷ same (fails taller 0x30 looped looped_kept) (9 ∷ 14 ∷ []) ∷ not (below taller 0x30 looped looped_kept)
    ∷ same (fails plain 0x30 looped looped_kept) [] ∷ below plain 0x30 looped looped_kept
    -- words of the new block, or of the link, read as codes: 8 and 13 fail, and the row above has other cells
    ∷ same (fails plain 0x30 in_block in_block_kept) (8 ∷ 13 ∷ []) ∷ not (above plain 0x30 in_block in_block_kept)
    ∷ same (fails plain 0x30 in_link in_link_kept) (8 ∷ 13 ∷ []) ∷ not (above plain 0x30 in_link in_link_kept)
    -- .. in one frame alone: the link followed twice by the last of five rows; D's codes, then the new row's, in the new block
    ∷ same (fails (settings 0 false 15) 0x30 looped looped_kept) (9 ∷ []) ∷ below (settings 0 false 15) 0x30 looped looped_kept
    ∷ same (fails plain 0x30 (codes_d (old free)) (codes_d (kept free))) (8 ∷ []) ∷ below plain 0x30 (codes_d (old free)) (codes_d (kept free))
    ∷ same (fails plain 0x30 (old free) itself) (13 ∷ []) ∷ above plain 0x30 (old free) itself ∷ below plain 0x30 (old free) itself
    ∷ []

-- these, the hypotheses of four insertions (from the start latches 0, 0, A000 and 0), the place and the effect of the first
pub computed : (every tests ≡ true)
    × (passes 0 plain 0x30 (old free) (kept free) ≡ true) × (passes 0 plain 0x30 (old free) set ≡ true)
    × (passes 0xA000 plain 0x10 (old free) topmost ≡ true) × (passes 0 taller 0x50 (old free) lowest ≡ true)
    × (place_of 0 plain 0x30 (old free) ≡ 2)
    × (effect_at plain (kept free) (get_elem? (states 0 plain (kept free)) (place_of 0 plain 0x30 (old free))) ≡ some empty)
unfolding settings block screen free keeping setting plain old kept set topmost taller lowest flagged same front seen above below failed fails effect_at window eight redefining looped looped_kept in_block in_block_kept in_link in_link_kept astray retyped one redefined_d unheld with_null broken broken_d ignoring codes_d itself tests ◌>>=◌ each run_from asked pointer next_word ahead words read_as good check_settings lines_for_rows main_block main_block_at segment_of segments_at segment_roles rest_of_block block_at row_block_at window_row_at format_of redefined W.window_of W.window_at W.first_window W.due_window S.window_in_range S.in_range invokes source_number window_number cell width total all_fit boundary edges_fit covered on_side segments_on window_row overlaid next_fields background_block background_row plan taking put character examine word_codes codes filled fill_by_word fill_to segment segments_to row_cells row with_cursor row_call top_block first_fields window_start start_from begin step within rest frame outcome_for effect_call called_on states times_followed first_followed apart all_apart rows_else read_else no_redefinition every words_fit same_from passes
computed = (refl, refl, refl, refl, refl, refl, refl)
