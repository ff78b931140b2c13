-- The cases, computed.
use mathlib.Core.Path.{◌≡◌, refl}
use mathlib.Core.Bool.{true}
use Rattle.memory.specs.Reading.{◌>>=◌, read_as, each, run_from}
use Rattle.memory.specs.Address.{pointer, next_word, ahead, words}
use Rattle.settings.specs.Good.{good}
use Rattle.settings.specs.Timing.{timing, lines_for_rows}
use Rattle.blocks.specs.Main.{main_block, main_block_at}
use Rattle.blocks.specs.RowBlock.{segment_of, segments_at, segment_roles, rest_of_block, block_at, row_block_at, redefined}
use Rattle.windows.specs.Window as W
use Rattle.state.specs.State as S
use Rattle.layout.specs.Layout.{width, total, all_fit, edges_fit}
use Rattle.layout.specs.Overlay.{overlaid}
use Rattle.background.specs.Background.{background_block, background_row}
use Rattle.plan.specs.Plan.{next_fields}
use Rattle.codes.specs.Attribute.{invokes}
use Rattle.codes.specs.Codes.{put, character, examine, word_codes, codes, taking}
use Rattle.cells.specs.Cells.{filled, fill_to, segment, segments_to, row_cells}
use Rattle.start.specs.Top.{top_block}
use Rattle.start.specs.Start.{first_fields, window_start}
use Rattle.converter.specs.Walk.{points_at, read_on, shared, walk}
use Rattle.converter.specs.Below.{row_below}
use Rattle.converter.specs.Converter.{follow_rows, follow, turned_memory, turned_settings, changes, convert_by, convert_call}
use Rattle.converter.specs.Cases.{same, every, screen, answered, shown, list, converted, refuses, cases, whole_page, page_case, page_cases, list_case, list_cases}

pub cases-hold : every cases ≡ true
unfolding same every screen answered shown list converted refuses cases filled good timing lines_for_rows pointer next_word ahead words read_as ◌>>=◌ each run_from main_block main_block_at segment_of segments_at segment_roles rest_of_block block_at row_block_at redefined W.window_at W.first_window W.due_window S.window_in_range S.in_range width total all_fit edges_fit overlaid background_block background_row next_fields invokes put character examine word_codes codes fill_to segment segments_to row_cells top_block first_fields window_start points_at read_on shared walk row_below follow_rows follow turned_memory turned_settings changes convert_by convert_call
cases-hold = refl

pub page-cases-hold : every page_cases ≡ true
unfolding same every screen answered whole_page page_case page_cases good timing lines_for_rows pointer next_word ahead words read_as ◌>>=◌ each run_from main_block main_block_at segment_of segments_at segment_roles rest_of_block block_at row_block_at redefined W.window_at W.first_window W.due_window S.window_in_range S.in_range width total all_fit edges_fit overlaid background_block background_row next_fields invokes put character examine word_codes codes fill_to segment segments_to row_cells top_block first_fields window_start points_at read_on shared walk row_below follow_rows follow turned_memory turned_settings changes convert_by convert_call
page-cases-hold = refl

pub list-cases-hold : every list_cases ≡ true
unfolding same every screen answered whole_page list_case list_cases filled good timing lines_for_rows pointer next_word ahead words read_as ◌>>=◌ each run_from main_block main_block_at segment_of segments_at segment_roles rest_of_block block_at row_block_at redefined W.window_at W.first_window W.due_window S.window_in_range S.in_range width total all_fit edges_fit overlaid background_block background_row next_fields invokes put character examine word_codes codes taking fill_to segment segments_to row_cells top_block first_fields window_start points_at read_on shared walk row_below follow_rows follow turned_memory turned_settings changes convert_by convert_call
list-cases-hold = refl
