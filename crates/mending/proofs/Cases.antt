-- The cases, computed.
use mathlib.Core.Path.{◌≡◌, refl}
use mathlib.Core.Bool.{true}
use Rattle.memory.specs.Reading.{◌>>=◌, read_as, each, run_from}
use Rattle.memory.specs.Address.{pointer, next_word, ahead, words}
use Rattle.settings.specs.Good.{good, check_settings}
use Rattle.settings.specs.Timing.{lines_for_rows}
use Rattle.blocks.specs.Main.{main_block, main_block_at}
use Rattle.blocks.specs.RowBlock.{segment_of, segments_at, segment_roles, rest_of_block, block_at, row_block_at, window_row_at, redefined}
use Rattle.windows.specs.Window as W
use Rattle.state.specs.State as S
use Rattle.layout.specs.Layout.{width, total, all_fit, boundary, edges_fit, segments_on, on_side, covered}
use Rattle.layout.specs.Overlay.{window_row, overlaid}
use Rattle.background.specs.Background.{background_block, background_row}
use Rattle.plan.specs.Plan.{next_fields, plan}
use Rattle.codes.specs.Codes.{put, codes}
use Rattle.cells.specs.Cells.{filled, fill_by_word, fill_to, segment, segments_to, row_cells}
use Rattle.row.specs.Row.{row}
use Rattle.start.specs.Top.{top_block}
use Rattle.start.specs.Start.{first_fields, window_start, start_from}
use Rattle.blame.specs.Blame.{leader, blamed, rows_within, rows, main_of, verdict}
use Rattle.mending.specs.Mending.{settings_after, memory_after, mend_step}
use Rattle.mending.specs.Cases.{same, every, screen, list, drawing, block, window, answered, shown, cuts, cuts_tow, given, cases}

pub cases-hold : every cases ≡ true
unfolding same every screen list drawing block window answered shown cuts cuts_tow given cases mend_step settings_after memory_after leader blamed rows_within rows main_of verdict good check_settings lines_for_rows pointer next_word ahead words read_as ◌>>=◌ each run_from main_block main_block_at segment_of segments_at segment_roles rest_of_block block_at row_block_at window_row_at redefined W.window_of W.window_at W.first_window W.due_window S.window_in_range S.in_range width total all_fit boundary edges_fit segments_on on_side covered window_row overlaid background_block background_row next_fields plan put codes filled fill_by_word fill_to segment segments_to row_cells row top_block first_fields window_start start_from
cases-hold = refl
