-- A screen of four lines that glides up by one, with a window on its second row: the output of its script's bytes, computed by the
-- definitions; and two inputs that are refused.
use Rattle.std.specs.Prelude.{◌≡◌, ℕ, List, [], ◌∷◌, ◌++◌, refl}
use Rattle.memory.specs.Reading.{◌>>=◌, read_as, each, run_from}
use Rattle.memory.specs.Address.{pointer, next_word, ahead, words}
use Rattle.settings.specs.Good.{good, check_settings}
use Rattle.settings.specs.Timing.{lines_for_rows}
use Rattle.blocks.specs.Main.{main_block, main_block_at}
use Rattle.blocks.specs.RowBlock.{segment_of, segments_at, segment_roles, rest_of_block, block_at, row_block_at, window_row_at, format_of, redefined}
use Rattle.windows.specs.Window as W
use Rattle.state.specs.State as S
use Rattle.codes.specs.Attribute.{invokes, source_number, window_number, cell}
use Rattle.layout.specs.Layout.{width, total, all_fit, boundary, edges_fit, covered, on_side, segments_on}
use Rattle.layout.specs.Overlay.{window_row, overlaid}
use Rattle.background.specs.Background.{background_block, background_row}
use Rattle.plan.specs.Plan.{next_fields, plan}
use Rattle.codes.specs.Codes.{taking, put, character as drawn, examine, word_codes, codes}
use Rattle.cells.specs.Cells.{filled, fill_by_word, fill_to, segment, segments_to, row_cells}
use Rattle.row.specs.Row.{row, with_cursor, row_call}
use Rattle.start.specs.Top.{top_block}
use Rattle.start.specs.Start.{first_fields, window_start, start_from}
use Rattle.frame.specs.Step.{begin, step}
use Rattle.frame.specs.Frame.{within, rest, frame}
use Rattle.beside.specs.Beside.{with_top}
use Rattle.scroll.specs.Rate.{rate}
use Rattle.scroll.specs.Scroll.{in_range, from_last, moved, reached, first_lines, edge_lines, shift_by, shift, shift_call}
use Rattle.panel.specs.Line.{place, above_at, background, line}
use Rattle.panel.specs.Shown.{with_cursor_of, shown_cell, cells_from, shown}
use Rattle.picture.specs.Picture.{columns_of, picture_row, picture_rows, frame_rows, below_rows, above_row, picture, line_on}
use Rattle.script.specs.Records.{switched, registered, accepted, settings_after, memory_after}
use Rattle.script.specs.Script.{unset}
use Rattle.script.specs.Feeding.{beginning, begun, taken, ended, step_of}
use Rattle.script.specs.SheetS.{register, words as word_records}
use Rattle.lines.specs.Lines.{text, digits, fewest, more_cells, cell_line, refusal_line, script_line}
use Rattle.glide_lines.specs.GlideLines.{frame_line, part_text, gliding_text, window_text, stretch_line, character, character_line, end_frames}
use Rattle.glide_text.specs.FrameText.{stretches, frame_text}
use Rattle.glide_text.specs.GlideText.{first_glide, shifted, after_frame, frame_end, draw_text, ending, soft_after, with_script, past_draw, on_bytes, output}

-- a row block: its link, two segments of two cells, and where their codes are
unfoldable pub row_words : (link left right : ℕ) → List ℕ
row_words link left right = 0 ∷ link ∷ 2 ∷ 0 ∷ left ∷ 0 ∷ 0 ∷ 0x0202 ∷ 0 ∷ right ∷ 0 ∷ 0 ∷ 0x0202 ∷ []

unfoldable pub records : List ℕ
records =
    (3 ∷ 0x01 ∷ [])
    ++ register 0x05 0x0020 ++ register 0x0a 0x0010 ++ register 0x0c 0x0200 ++ register 0x12 0x0004 ++ register 0x13 0x0008
    ++ register 0x17 0x0007 ++ register 0x18 0x0004
    ++ word_records 0x10 (0 ∷ 0x100 ∷ 0 ∷ 0x20 ∷ 0x6000 ∷ 0 ∷ 1 ∷ []) ++ word_records 0x20 (0 ∷ 0x120 ∷ 0 ∷ 0x20 ∷ 0x6000 ∷ 0 ∷ 1 ∷ [])
    ++ word_records 0x100 (row_words 0x120 0x180 0x182) ++ word_records 0x120 (row_words 0x140 0x184 0x186) ++ word_records 0x140 (row_words 0 0x188 0x18a)
    ++ word_records 0x180 (0x4142 ∷ 0x3132 ∷ 0x4344 ∷ 0x3334 ∷ 0x4546 ∷ 0x3536 ∷ [])
    ++ word_records 0x200 (0 ∷ 0 ∷ 0 ∷ 0x210 ∷ 0x0101 ∷ 0x0203 ∷ []) ++ word_records 0x210 (0 ∷ 0 ∷ 1 ∷ 0 ∷ 0x220 ∷ 0 ∷ 0 ∷ 0x0202 ∷ [])
    ++ word_records 0x220 (0x5b5d ∷ [])

unfoldable pub first_frame : List ℕ
first_frame =
    text "frame 0 shift 1 phase 0 up top 0000 0010 latch 0000\n"
    ++ text "lines 0 to 0 row 0 from 1 of 2 attr 000 still 0 from 0 of 2 attr 000\n"
    ++ text "|AB12|\n00100041 00100042 00100031 00100032\n"
    ++ text "lines 1 to 1 row 1 from 0 of 2 attr 000 still 0 from 1 of 2 attr 000\n"
    ++ text "|CD34|\n00100043 00100044 00100033 00100034\n"
    ++ text "lines 2 to 2 row 1 from 1 of 2 attr 000 still 1 from 0 of 2 attr 000 window 2 to 3\n"
    ++ text "|CD[]|\n00100043 00100044 0020005B 0020005D\n"
    ++ text "lines 3 to 3 below 0 from 0 of 2 attr 000 still 1 from 1 of 2 attr 000 window 2 to 3\n"
    ++ text "|EF[]|\n00100045 00100046 0020005B 0020005D\n"

unfoldable pub last_frame : List ℕ
last_frame =
    text "frame 1 shift 0 phase 0 up top 0000 0020 latch 0000\n"
    ++ text "lines 0 to 1 row 0 from 0 of 2 attr 000 still 0 from 0 of 2 attr 000\n"
    ++ text "|CD34|\n00100043 00100044 00100033 00100034\n"
    ++ text "lines 2 to 3 row 1 from 0 of 2 attr 000 still 1 from 0 of 2 attr 000 window 2 to 3\n"
    ++ text "|EF[]|\n00100045 00100046 0020005B 0020005D\n"

-- the script with its draw; without it; and with a bad record after it
pub output-window :
    (output (records ++ (0 ∷ [])) ≡ first_frame ++ last_frame ++ text "end frames 2\n")
    × (output records ≡ text "refused script at 474\n")
    × (output (records ++ (0 ∷ 4 ∷ [])) ≡ first_frame ++ text "refused script at 475\n")
unfolding row_words records first_frame last_frame read_as ◌>>=◌ each run_from pointer next_word ahead words good check_settings lines_for_rows main_block main_block_at segment_of segments_at segment_roles rest_of_block block_at row_block_at window_row_at format_of redefined W.window_of W.window_at W.first_window W.due_window S.window_in_range S.in_range invokes source_number window_number cell width total all_fit boundary edges_fit covered on_side segments_on window_row overlaid background_block background_row next_fields plan taking put drawn examine word_codes codes filled fill_by_word fill_to segment segments_to row_cells row with_cursor row_call top_block first_fields window_start start_from begin step within rest frame with_top rate in_range from_last moved reached first_lines edge_lines shift_by shift shift_call place above_at background line with_cursor_of shown_cell cells_from shown columns_of picture_row picture_rows frame_rows below_rows above_row picture line_on switched registered accepted settings_after memory_after unset beginning begun taken ended step_of register word_records digits fewest more_cells cell_line refusal_line script_line frame_line part_text gliding_text window_text stretch_line character character_line end_frames stretches frame_text first_glide shifted after_frame frame_end draw_text ending soft_after with_script past_draw on_bytes output
output-window = (refl, refl, refl)
