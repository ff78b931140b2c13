-- Each number of each call's list is answered: a computed example for one after the other.
use Rattle.std.proofs.Common.{Option, Some, None}
use Prim.Native.Nat.{ℕ}
use mathlib.Core.Path.{◌≡◌, refl}
use mathlib.Core.Bool.{Bool, true, false}
use mathlib.Core.List.{List, [], ◌∷◌, ◌++◌}
use lib.IntN.{pos}
use lib.ListN.{replicate}
use Rattle.memory.specs.Reading.{◌>>=◌, read_as, each, run_from}
use Rattle.memory.specs.Address.{to, pointer, next_word, ahead, words}
use Rattle.settings.specs.declared.Edition.TheVariants.{Am8052}
use Rattle.settings.specs.declared.Interlace.TheVariants.{Progressive}
use Rattle.settings.specs.declared.Settings.{Settings}
use Rattle.settings.specs.Good.{good, check_settings}
use Rattle.settings.specs.Sheet.{sheet_call}
use Rattle.blocks.specs.Main.{main_block, main_block_at}
use Rattle.blocks.specs.RowBlock.{segment_of, segments_at, segment_roles, rest_of_block, block_at, row_block_at, window_row_at, redefined}
use Rattle.windows.specs.Window as W
use Rattle.state.specs.declared.Fields.{Fields}
use Rattle.state.specs.State as S
use Rattle.layout.specs.Layout.{width, total, all_fit, boundary, edges_fit}
use Rattle.layout.specs.Overlay.{window_row, overlaid}
use Rattle.background.specs.Background.{background_block, background_row}
use Rattle.plan.specs.Plan.{next_fields, plan}
use Rattle.codes.specs.Codes.{codes}
use Rattle.windows.specs.declared.Window.{Window}
use Rattle.cells.specs.Cells.{fill_by_word, fill_to, segment, segments_to, row_cells}
use Rattle.row.specs.Row.{row, row_call}
use Rattle.start.specs.Top.{top_block}
use Rattle.scroll.specs.declared.Scroll.{Scroll}
use Rattle.scroll.specs.Scroll as Shift
use Rattle.start.specs.Start.{first_fields, window_start, start_from, start_call}
use Rattle.effect.specs.Effect.{outcome_for, effect_call}
use Rattle.refusals.specs.Refusals.{sheet_numbers, start_numbers, shift_numbers, effect_numbers, row_numbers, of_sheet, of_start, of_shift, of_row, of_part}

-- settings, linear or segmented, with these second words of TOP and TOW, and this VAL; 0 is not above VSD
unfoldable pub mode : Bool → ℕ → ℕ → ℕ → Settings
mode linear top tow val = record {
  linear = linear;
  hidden = false;
  interlace = Progressive;
  cursor = false;
  flag = 0;
  top = record { first = 0; second = top };
  tow = record { first = 0; second = tow };
  vsw = 0;
  vsd = 0;
  val = val;
  vtot = 20;
  hsync = 0;
  hsd = 1;
  htc = 7;
  htd = 5;
  edition = Am8052;
}

unfoldable pub settings : ℕ → ℕ → ℕ → Settings
settings top tow val = mode true top tow val

unfoldable pub segmented : Settings
segmented = mode false 2 0 16

unfoldable pub plain : Settings
plain = settings 2 0 16

-- VAL 0, and segmented too: 17 comes "just after 2"
unfoldable pub bad : Settings
bad = mode false 2 0 0

-- row 1 of a state with these lines left, its block at 2, the fill flag set
unfoldable pub fields : ℕ → Option Window → Fields
fields left w = record {
  row = 1;
  left = left;
  cursor = record { x = 0; y = 0 };
  fill = record { code = 0x20; flag = true };
  format = record { lines = 8; attributes = 0; curs = 0; cure = 31 };
  next = to 0 2;
  window = w;
}

-- a window on the rows top to bottom, columns 1 and 2, with its row block and the next window block at these addresses
unfoldable pub window : ℕ → ℕ → ℕ → ℕ → Option Window
window top bottom rows link =
    Some (record { block = record { number = 0; top = top; bottom = bottom; left = 1; right = 2; link = to 0 link }; rows = to 0 rows })

-- a memory with a row block of one segment at 2: its code pointer, its attribute pointer, L and V in one word
unfoldable pub block : ℕ → ℕ → ℕ → List ℕ
block code list lengths = 0 ∷ 0 ∷ 0 ∷ 1 ∷ 0 ∷ code ∷ 0 ∷ list ∷ lengths ∷ []

-- what is handed to a row or an effect call
pub record Call : Type 0 where
  pub settings : Settings
  pub memory : List ℕ
  pub fields : Fields

unfoldable pub call : Settings → List ℕ → Fields → Call
call σ m f = record { settings = σ; memory = m; fields = f }

-- 2: VAL 0. 17: segmented
unfoldable pub unset : List Call
unset = call bad [] (fields 1 None) ∷ call segmented [] (fields 1 None) ∷ []

unfoldable pub undrawn : List Call
undrawn =
    -- 7: no word. 8: the window of row 0 has passed, and the next one's first row, 1, is past its last, 0
    call plain [] (fields 1 None) ∷ call plain (0 ∷ 0 ∷ 0 ∷ 0 ∷ 0 ∷ 0x100 ∷ 0 ∷ []) (fields 1 (window 0 0 0 2))
    -- 9: V 1, L 0. 10: width 133
    ∷ call plain (block 2 0 1) (fields 1 None) ∷ call plain (block 0 0 133) (fields 1 None)
    -- 11: width 3 in a window of 2 columns. 12: its first column inside a segment of width 2
    ∷ call plain (block 0 0 3) (fields 1 (window 1 1 2 0)) ∷ call plain (block 0 0 2) (fields 1 (window 1 1 0 0))
    -- 13: the fill word is 0
    ∷ call plain (block 0 2 1) (fields 1 None) ∷ []

-- and between them 3: row 1 and 4095 lines. 4: no line
pub calls : List Call
calls = unset ++ call plain [] (fields 4095 None) ∷ call plain [] (fields 0 None) ∷ undrawn

-- the numbers that these calls answer: of rows with a buffer of 132 cells, of both parts of effects
pub rows_of : List Call → List ℕ
rows_of [] = []
rows_of (c ∷ cs) = of_row (row_call c.settings c.memory (S.state_of 0 c.fields) (replicate 132 0)).answer ++ rows_of cs

pub clear_of : List Call → List ℕ
clear_of [] = []
clear_of (c ∷ cs) = of_part (effect_call c.settings c.memory c.fields).effect.clear ++ clear_of cs

pub set_of : List Call → List ℕ
set_of [] = []
set_of (c ∷ cs) = of_part (effect_call c.settings c.memory c.fields).effect.set ++ set_of cs

-- ---- the statements ----
pub sheets : of_sheet (sheet_call bad) ≡ sheet_numbers
unfolding mode settings segmented bad sheet_call good
sheets = refl

-- a main block at 2, whose M4 has enable and window
unfoldable pub scrolling : List ℕ
scrolling = 0 ∷ 0 ∷ 0 ∷ 0 ∷ 0 ∷ 0x5000 ∷ 0 ∷ 0 ∷ []

-- VAL 0; segmented; TOP null; no word; M4 with enable and window; a window whose first row, 1, is past its last, 0
pub starts : of_start (start_call 0 bad []) ++ of_start (start_call 0 segmented []) ++ of_start (start_call 0 (settings 0 0 16) []) ++ of_start (start_call 0 plain [])
    ++ of_start (start_call 0 plain scrolling) ++ of_start (start_call 0 (settings 2 2 16) (0 ∷ 0 ∷ 0 ∷ 0 ∷ 0 ∷ 0x100 ∷ 0 ∷ 0 ∷ [])) ≡ start_numbers
unfolding mode settings segmented bad plain good check_settings pointer next_word ahead words read_as ◌>>=◌ run_from main_block main_block_at W.window_of W.window_at W.first_window top_block first_fields window_start start_from start_call scrolling
starts = refl

-- a scroll of this phase
pub scroll : ℕ → Scroll
scroll phase = record { shift = pos 0; phase = phase; direction = 0 }

-- VAL 0; segmented; phase 8; TOP null; no word; M4 with enable and window
pub shifts : of_shift (Shift.shift_call bad [] plain.top (scroll 0)) ++ of_shift (Shift.shift_call segmented [] plain.top (scroll 0)) ++ of_shift (Shift.shift_call plain [] plain.top (scroll 8))
    ++ of_shift (Shift.shift_call (settings 0 0 16) [] plain.top (scroll 0)) ++ of_shift (Shift.shift_call plain [] plain.top (scroll 0))
    ++ of_shift (Shift.shift_call plain scrolling plain.top (scroll 0)) ≡ shift_numbers
unfolding mode settings segmented bad plain scroll good check_settings pointer next_word words read_as ◌>>=◌ run_from main_block main_block_at top_block scrolling Shift.in_range Shift.shift_by Shift.shift Shift.shift_call
shifts = refl

-- 131 cells, then the calls above
pub rows : of_row (row_call plain [] (S.state_of 0 (fields 1 None)) (replicate 131 0)).answer ++ rows_of calls ≡ row_numbers
unfolding mode settings segmented bad plain fields window block call unset undrawn calls rows_of good check_settings pointer next_word ahead words read_as ◌>>=◌ each run_from segment_of segments_at segment_roles rest_of_block block_at row_block_at window_row_at redefined W.window_of W.window_at W.due_window S.window_in_range S.in_range width total all_fit boundary edges_fit window_row overlaid next_fields background_block background_row plan codes fill_by_word fill_to segment segments_to row_cells row row_call
rows = refl

pub effects : (clear_of calls ≡ effect_numbers) × (set_of calls ≡ effect_numbers)
unfolding mode settings segmented bad plain fields window block call unset undrawn calls clear_of set_of good check_settings pointer next_word ahead words read_as ◌>>=◌ each run_from segment_of segments_at segment_roles rest_of_block block_at row_block_at window_row_at redefined W.window_of W.window_at W.due_window S.window_in_range S.in_range width total all_fit boundary edges_fit window_row overlaid next_fields background_block background_row plan codes fill_by_word fill_to segment segments_to row_cells row outcome_for effect_call
effects = (refl, refl)
