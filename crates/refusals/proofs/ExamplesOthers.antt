-- Each number of the row beside the cut, of mending and of the converter is answered but the converter's 3; and no list has 5.
use Rattle.std.proofs.Common.{None}
use Prim.Native.Nat.{ℕ}
use mathlib.Core.Path.{◌≡◌, refl}
use mathlib.Core.Bool.{false}
use mathlib.Core.List.{List, [], ◌∷◌, ◌++◌}
use lib.IntN.{pos, negsuc}
use lib.ListN.{length, replicate}
use Rattle.memory.specs.Reading.{◌>>=◌, read_as, each, run_from}
use Rattle.memory.specs.Address.{to, pointer, next_word, ahead, words}
use Rattle.settings.specs.declared.Settings.{Settings}
use Rattle.settings.specs.Good.{good, check_settings}
use Rattle.settings.specs.Timing.{lines_for_rows}
use Rattle.blocks.specs.Main.{main_block, main_block_at}
use Rattle.blocks.specs.RowBlock.{segment_of, segments_at, segment_roles, rest_of_block, block_at, row_block_at, window_row_at, redefined}
use Rattle.windows.specs.Window as W
use Rattle.state.specs.declared.Fields.{Fields}
use Rattle.state.specs.State as S
use Rattle.layout.specs.Layout.{width, total, all_fit, boundary, edges_fit}
use Rattle.layout.specs.Overlay.{window_row, overlaid}
use Rattle.background.specs.Background.{background_block, background_row}
use Rattle.plan.specs.Plan.{next_fields, plan}
use Rattle.codes.specs.Attribute.{invokes}
use Rattle.codes.specs.Codes.{put, character, examine, word_codes, codes}
use Rattle.cells.specs.Cells.{filled, fill_by_word, fill_to, segment, segments_to, row_cells}
use Rattle.row.specs.Row.{row, row_call}
use Rattle.start.specs.Top.{top_block}
use Rattle.start.specs.Start.{first_fields, window_start, start_from, start_call}
use Rattle.beside.specs.Beside.{with_top, row_above}
use Rattle.listed.specs.Listed.{row_listed}
use Rattle.listed_beside.specs.ListedBeside.{below_listed, above_listed, beside_listed}
use Rattle.blame.specs.Blame.{main_of, verdict}
use Rattle.mending.specs.Mending.{mend_step}
use Rattle.converter.specs.Walk.{points_at, read_on, shared, walk}
use Rattle.converter.specs.Below.{row_below}
use Rattle.converter.specs.Converter.{follow_rows, follow, convert_by, convert_call}
use Rattle.converter.specs.Cases.{whole_page}
use Rattle.refusals.specs.Refusals.{sheet_numbers, start_listed_numbers, shift_numbers, drawing_numbers, row_listed_numbers, beside_numbers, mend_numbers, convert_numbers, writer_numbers, bus_numbers, write_mail_numbers, read_mail_numbers, of_beside, of_mend, of_convert, has}
use Rattle.refusals.proofs.Examples.{mode, settings, segmented, bad, plain, fields, window, block, Call, call, unset, undrawn, scrolling}

-- ---- the row beside the cut ----

-- up, from the state of a call, with a list of 12,000 places
abbrev places : List ℕ
places = replicate 12000 0

pub up : List Call → List ℕ
up [] = []
up (c ∷ cs) =
    of_beside (beside_listed c.settings c.memory (pos 1) plain.top 0 (S.state_of 0 c.fields) (replicate 132 0) places).answer ++ up cs

-- .. with these cells and places
pub up_with : List ℕ → List ℕ → List ℕ
up_with cells list = of_beside (beside_listed plain [] (pos 1) plain.top 0 (S.state_of 0 (fields 1 None)) cells list).answer

-- down, to a soft top in these settings' TOP
pub down : Settings → List ℕ → List ℕ
down σ m = of_beside (beside_listed plain m (negsuc 0) σ.top 0 (S.state_of 0 (fields 1 None)) (replicate 132 0) places).answer

-- a next row block at an odd address
pub odd : Fields
odd = record {
  row = 1;
  left = 1;
  cursor = record { x = 0; y = 0 };
  fill = record { code = 0; flag = false };
  format = record { lines = 8; attributes = 0; curs = 0; cure = 31 };
  next = to 0 3;
  window = None;
}

-- 131 cells; no places; VAL 0 and segmented; a state out of range; a soft top that is null; M4 with enable and window; then a row's
pub besides : up_with (replicate 131 0) [] ++ up_with (replicate 132 0) [] ++ up unset ++ up (call plain [] odd ∷ []) ++ down (settings 0 0 16) [] ++ down plain scrolling
    ++ up undrawn ≡ beside_numbers
unfolding up up_with down odd below_listed above_listed beside_listed row_listed with_top row_above mode settings segmented bad plain fields window block call unset undrawn good check_settings pointer next_word ahead words read_as ◌>>=◌ each run_from segment_of segments_at segment_roles rest_of_block block_at row_block_at window_row_at redefined W.window_of W.window_at W.due_window S.window_in_range S.in_range width total all_fit boundary edges_fit window_row overlaid next_fields background_block background_row plan codes fill_by_word fill_to segment segments_to row_cells row row_call main_block main_block_at top_block start_from start_call scrolling
besides = refl

-- ---- a mending step ----

-- VAL 0; segmented; TOP null; no word; M4 with enable and window
pub mends : of_mend (mend_step 0 bad []).answer ++ of_mend (mend_step 0 segmented []).answer ++ of_mend (mend_step 0 (settings 0 0 16) []).answer
    ++ of_mend (mend_step 0 plain []).answer ++ of_mend (mend_step 0 plain scrolling).answer ≡ mend_numbers
unfolding mend_step verdict main_of mode settings segmented bad plain good check_settings pointer next_word words read_as ◌>>=◌ run_from main_block main_block_at top_block scrolling
mends = refl

-- ---- a conversion ----

pub converts : Settings → List ℕ → List ℕ
converts σ m = of_convert (convert_call 0 σ m (length m)).answer

-- a main block at 2 with the fill flag, its row block at 16 with one segment: code pointer, attribute pointer, L and V; then the words from
-- 32 on
pub rows_at : (code list lengths : ℕ) → List ℕ → List ℕ
rows_at code list lengths more =
    0 ∷ 0 ∷ 16 ∷ 0 ∷ 0x120 ∷ 0 ∷ 0 ∷ 7
    ∷ 0 ∷ 0 ∷ 1 ∷ 0 ∷ code ∷ 0 ∷ list ∷ lengths
    ∷ more

-- another number of marks; VAL 0; linear; a main block read on over its page's end; codes from a pointer's first word; TOP null; M4 with
-- enable and window
pub converts-own : of_convert (convert_call 0 segmented [] 1).answer ++ converts bad [] ++ converts plain []
    ++ converts (mode false 0xFFF4 0 16) (whole_page 32761 (0 ∷ 0 ∷ 0 ∷ 0x20 ∷ 0 ∷ 0 ∷ 15 ∷ []))
    ++ converts segmented (rows_at 16 0 0x0101 []) ++ converts (mode false 0 0 16) [] ++ converts segmented scrolling
    ≡ 22 ∷ 2 ∷ 26 ∷ 18 ∷ 19 ∷ 6 ∷ 14 ∷ []
unfolding converts rows_at whole_page points_at read_on shared walk row_below follow_rows follow convert_by convert_call invokes put character examine word_codes filled mode settings segmented bad plain good pointer next_word ahead words read_as ◌>>=◌ each segment_of segments_at segment_roles rest_of_block block_at row_block_at redefined W.window_at W.first_window W.due_window S.window_in_range S.in_range width total all_fit edges_fit overlaid next_fields background_block background_row codes fill_to segment segments_to row_cells main_block main_block_at top_block lines_for_rows first_fields window_start scrolling
converts-own = refl

-- a window block at 32, on row 0, columns 1 and 2, whose row block is at this address
pub window_at : ℕ → List ℕ → List ℕ
window_at rows more = 0 ∷ 0 ∷ 0 ∷ rows ∷ 0 ∷ 0x102 ∷ more

-- no word; a window whose first row, 1, is past its last, 0; V 1, L 0; width 133; width 3 in a window of 2 columns; its first column inside a
-- segment of width 2; a fill word that is 0
pub converts-drawing : converts segmented [] ++ converts (mode false 2 32 16) (rows_at 0 0 1 (0 ∷ 0 ∷ 0 ∷ 0 ∷ 0x100 ∷ 0 ∷ []))
    ++ converts segmented (rows_at 2 0 1 []) ++ converts segmented (rows_at 0 0 133 [])
    ++ converts (mode false 2 32 16) (rows_at 0 0 3 (window_at 44 (0 ∷ 0 ∷ 1 ∷ 0 ∷ 0 ∷ 0 ∷ 0 ∷ 3 ∷ [])))
    ++ converts (mode false 2 32 16) (rows_at 0 0 2 (window_at 0 [])) ++ converts segmented (rows_at 0 32 1 (0 ∷ [])) ≡ drawing_numbers
unfolding window_at converts rows_at points_at read_on shared walk row_below follow_rows follow convert_by convert_call mode segmented good pointer next_word ahead words read_as ◌>>=◌ each segment_of segments_at segment_roles rest_of_block block_at row_block_at window_row_at redefined W.window_of W.window_at W.first_window W.due_window S.window_in_range S.in_range width total all_fit boundary edges_fit window_row overlaid next_fields background_block background_row codes fill_by_word fill_to segment segments_to row_cells main_block main_block_at top_block lines_for_rows first_fields window_start
converts-drawing = refl

-- ---- 02: "no call can reach refusal 5"; 01: "5 withdrawn, its number unused" ----
pub unused :
    has 5
    (sheet_numbers ++ start_listed_numbers ++ row_listed_numbers ++ shift_numbers ++ beside_numbers ++ mend_numbers ++ convert_numbers ++ writer_numbers ++ bus_numbers
    ++ write_mail_numbers ++ read_mail_numbers)
    ≡ false
unused = refl
