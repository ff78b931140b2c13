-- The example, computed: the frame has the refusal, and at the address told stand the pointer's two words.
use mathlib.Core.Path.{◌≡◌, refl}
use mathlib.Core.Option.{some}
use native.Mathlib.Omega.{arith}
use Rattle.memory.specs.Reading.{◌>>=◌, read_as, each, run_from}
use Rattle.memory.specs.Address.{pointer, next_word, ahead, words}
use Rattle.settings.specs.Good.{good, check_settings}
use Rattle.settings.specs.Timing.{timing, lines_for_rows}
use Rattle.blocks.specs.Main.{main_block, main_block_at}
use Rattle.blocks.specs.RowBlock.{segment_of, segments_at, segment_roles, rest_of_block, block_at, row_block_at, redefined}
use Rattle.windows.specs.Window as W
use Rattle.state.specs.State as S
use Rattle.layout.specs.Layout.{width, total, all_fit, edges_fit}
use Rattle.layout.specs.Overlay.{overlaid}
use Rattle.background.specs.Background.{background_block, background_row}
use Rattle.plan.specs.Plan.{next_fields, plan}
use Rattle.codes.specs.Attribute.{invokes}
use Rattle.codes.specs.Codes.{put, character, examine, word_codes, codes}
use Rattle.cells.specs.Cells.{segment, segments_to, row_cells}
use Rattle.start.specs.Top.{top_block}
use Rattle.start.specs.Start.{first_fields, window_start, start_from}
use Rattle.row.specs.Row.{row, row_call}
use Rattle.frame.specs.Step.{begin, step}
use Rattle.frame.specs.Frame.{within, rest, frame}
use Rattle.told.specs.Told.{ByWords}
use Rattle.told.specs.Example.{settings, memory, told}
use Rattle.told.proofs.Theorem.{told-words}

pub refused : (frame 0 settings memory).refusal ≡ some told
unfolding settings memory good check_settings timing lines_for_rows pointer next_word ahead words read_as ◌>>=◌ each run_from main_block main_block_at top_block first_fields window_start start_from W.window_at W.first_window W.due_window S.window_in_range S.in_range segment_of segments_at segment_roles rest_of_block block_at row_block_at redefined width total all_fit edges_fit overlaid background_block background_row next_fields plan invokes put character examine word_codes codes segment segments_to row_cells row row_call begin step within rest frame
refused = refl

pub words-there : ByWords settings memory told
words-there = told-words settings memory 0 told refused refl λ e. omega (arith, e)
