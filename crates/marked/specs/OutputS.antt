-- Document 01, sheet S: its "Whole output" from its script's bytes, and two outputs that a refusal ends, computed by the definitions.
use Rattle.std.specs.Prelude.{◌≡◌, refl, [], ◌∷◌, ◌++◌}
use Rattle.memory.specs.Reading.{◌>>=◌, read_as, each, run_from}
use Rattle.memory.specs.Address.{pointer, next_word, ahead, words}
use Rattle.settings.specs.Good.{good, check_settings}
use Rattle.blocks.specs.Main.{main_block, main_block_at}
use Rattle.blocks.specs.RowBlock.{segment_of, segments_at, segment_roles, rest_of_block, block_at, row_block_at, window_row_at, format_of, redefined}
use Rattle.windows.specs.Window as W
use Rattle.state.specs.State as S
use Rattle.codes.specs.Attribute.{invokes, source_number, window_number, cell}
use Rattle.layout.specs.Layout.{width, total, all_fit, boundary, edges_fit, covered, on_side, segments_on}
use Rattle.layout.specs.Overlay.{window_row, overlaid}
use Rattle.background.specs.Background.{background_block, background_row}
use Rattle.plan.specs.Plan.{next_fields, plan}
use Rattle.codes.specs.Codes.{taking, put, character, examine, word_codes, codes}
use Rattle.cells.specs.Cells.{filled, fill_by_word, fill_to, segment, segments_to, row_cells}
use Rattle.row.specs.Row.{row, with_cursor, row_call}
use Rattle.start.specs.Top.{top_block}
use Rattle.start.specs.Start.{first_fields, window_start, start_from}
use Rattle.frame.specs.Step.{begin, step}
use Rattle.frame.specs.Frame.{within, rest, frame}
use Rattle.settings.specs.Timing.{lines_for_rows}
use Rattle.script.specs.Records.{switched, registered, accepted, settings_after, memory_after}
use Rattle.script.specs.Script.{unset, number_from, records, script}
use Rattle.script.specs.SheetS.{register, words as word_records, records_s, script_s}
use Rattle.lines.specs.Lines.{text, digits, fewest, row_line, more_cells, cell_line, end_line, refusal_line, script_line}
use Rattle.text.specs.Form.{rows_text, frame_text}
use Rattle.text.specs.Text.{output}

-- "Whole output"; without the draw; and where row 0 links to the word past memory: "A refusal prints .. after the rows already drawn,
-- and ends the output with no end line."
pub output-s :
    (output script_s
    ≡ text "row 0 lines 8 attr 000 words 12\n00100041 00500042 00100281 00000220\n"
    ++ text "row 1 lines 8 attr 000 words 3\n00000220 00000220 00000220 00000220\n"
    ++ text "end rows 2 words 22\n")
    × (output records_s ≡ text "refused script at 144\n")
    × (output (records_s ++ word_records 0x22 (0x8000 ∷ []) ++ (0 ∷ []))
    ≡ text "row 0 lines 8 attr 000 words 12\n00100041 00500042 00100281 00000220\n" ++ text "refused 7 row 1 at 008000 from 000020\n")
unfolding read_as ◌>>=◌ each run_from pointer next_word ahead words good check_settings main_block main_block_at segment_of segments_at segment_roles rest_of_block block_at row_block_at window_row_at format_of redefined W.window_of W.window_at W.first_window W.due_window S.window_in_range S.in_range invokes source_number window_number cell width total all_fit boundary edges_fit covered on_side segments_on window_row overlaid next_fields background_block background_row plan taking put character examine word_codes codes filled fill_by_word fill_to segment segments_to row_cells row with_cursor row_call top_block first_fields window_start start_from begin step within rest frame lines_for_rows switched registered accepted settings_after memory_after unset number_from records script register word_records records_s digits fewest row_line more_cells cell_line end_line refusal_line script_line rows_text frame_text output
output-s = (refl, refl, refl)
