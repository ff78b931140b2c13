-- The condition of two desks can be met, and it is needed: a computed example of each. Between the forecaster's start and its row the
-- supervisor writes a word: in the first example one that the forecaster does not read, in the second the count of its row block.
use Rattle.std.proofs.Common.{None, Ok}
use Prim.Native.Nat.{ℕ, ◌*◌, ◌/◌}
use mathlib.Core.Path.{◌≡◌, refl, sym, ap, subst, ◌∙◌}
use mathlib.Core.Bool.{Bool, true, false, not, ◌&&◌}
use mathlib.Core.List.{List, [], ◌∷◌}
use native.Mathlib.Omega.{arith}
use lib.ListN.{length, replicate}
use borrow.Author.Tests.{not-true}
use Rattle.memory.specs.Reading.{◌>>=◌, read_as, each, run_from, asked}
use Rattle.memory.specs.Address.{to, pointer, next_word, ahead, words}
use Rattle.memory.proofs.ReadBounds.{both}
use Rattle.settings.specs.declared.Edition.TheVariants.{Am8052}
use Rattle.settings.specs.declared.Interlace.TheVariants.{Progressive}
use Rattle.settings.specs.declared.Settings.{Settings}
use Rattle.settings.specs.Good.{good, check_settings}
use Rattle.settings.specs.Timing.{lines_for_rows}
use Rattle.blocks.specs.Main.{main_block, main_block_at}
use Rattle.blocks.specs.RowBlock.{segment_of, segments_at, segment_roles, rest_of_block, block_at, row_block_at, redefined}
use Rattle.windows.specs.Window as W
use Rattle.state.specs.State as S
use Rattle.layout.specs.Layout.{total, all_fit, edges_fit}
use Rattle.layout.specs.Overlay.{window_row, overlaid}
use Rattle.background.specs.Background.{background_block, background_row}
use Rattle.plan.specs.Plan.{next_fields, plan}
use Rattle.codes.specs.Codes.{codes}
use Rattle.cells.specs.Cells.{fill_by_word, fill_to, segment, segments_to, row_cells}
use Rattle.start.specs.Top.{top_block}
use Rattle.start.specs.Start.{first_fields, window_start, start_from, start_call}
use Rattle.row.specs.Row as Rows
use Rattle.listed.specs.Listed.{start_listed, row_listed, written}
use Rattle.writer.specs.declared.Span.{Span}
use Rattle.writer.specs.Writer.{inside, write_word}
use Rattle.desks.specs.Finds.{in_memory}
use Rattle.desks.specs.Depends.{here, there}
use Rattle.two_desks.specs.DeskCalls.{Call, start, row, write, read_by, answer, state_after, memory_after}
use Rattle.two_desks.specs.Desks.{Desk, forecaster, supervisor, Spans, States, Action, in_turn, alone, gets, reads, ClearOf}
use Rattle.two_desks.proofs.Apart.{two-desks}

pub settings : Settings
settings = record {
  linear = true;
  hidden = false;
  interlace = Progressive;
  cursor = false;
  flag = 0;
  top = record { first = 0; second = 2 };
  tow = record { first = 0; second = 0 };
  vsw = 0;
  vsd = 0;
  val = 16;
  vtot = 20;
  hsync = 0;
  hsd = 1;
  htc = 7;
  htd = 5;
  edition = Am8052;
}

-- a main block at 2, whose first row block, without segments, is at 16 and ends at 21; then two words
pub memory : List ℕ
memory = 0 ∷ 0 ∷ 16 ∷ 0 ∷ 0 ∷ 0 ∷ 0 ∷ 8 ∷ 0 ∷ 0 ∷ 0 ∷ 0 ∷ 0 ∷ []

-- the forecaster may write its main block, the supervisor the words from an address on
pub spans : ℕ → Spans
spans first forecaster = record { first = 0; last = 15 }
spans first supervisor = record { first = first; last = 25 }

-- the states before any start
pub states : States
states d = S.state_of 0 (record {
  row = 0;
  left = 0;
  cursor = record { x = 0; y = 0 };
  fill = record { code = 0; flag = false };
  format = record { lines = 1; attributes = 0; curs = 0; cure = 31 };
  next = to 0 0;
  window = None;
})

pub action : Desk → Call → Action
action d c = record { desk = d; call = c }

-- start, write at an address, row
pub actions : ℕ → List Action
actions address =
    action forecaster (start settings 0 (replicate 12000 0))
    ∷ action supervisor (write address 1)
    ∷ action forecaster (row settings (replicate 132 0) (replicate 12000 0))
    ∷ []

-- what the forecaster's calls read among the supervisor's, and alone, where the supervisor writes the first word of its span
pub in_turns : ℕ → List ℕ
in_turns a = reads (gets forecaster (in_turn (spans a) memory states (actions a)))

pub by_itself : ℕ → List ℕ
by_itself a = reads (in_turn (spans a) memory states (alone forecaster (actions a)))

-- The forecaster's start reads its main block, its row the row block. A count of 1 written there between the two makes the row read two
-- words of a segment too, whose third is missing.
pub computed : (in_turns 22 ≡ 2 ∷ 4 ∷ 6 ∷ 8 ∷ 10 ∷ 12 ∷ 14 ∷ 16 ∷ 18 ∷ 20 ∷ [])
    × ((write_word memory (spans 22 supervisor) (spans 22 forecaster) 22 1).answer ≡ (Ok tt))
    × (in_turns 20 ≡ 2 ∷ 4 ∷ 6 ∷ 8 ∷ 10 ∷ 12 ∷ 14 ∷ 16 ∷ 18 ∷ 20 ∷ 22 ∷ 24 ∷ [])
    × (by_itself 20 ≡ 2 ∷ 4 ∷ 6 ∷ 8 ∷ 10 ∷ 12 ∷ 14 ∷ 16 ∷ 18 ∷ 20 ∷ [])
unfolding settings memory spans states action actions in_turns by_itself in_turn gets alone reads read_by in_memory answer state_after memory_after start_listed row_listed written start_call write_word good check_settings lines_for_rows pointer next_word ahead words read_as ◌>>=◌ each run_from asked main_block main_block_at segment_of segments_at segment_roles rest_of_block block_at row_block_at redefined W.window_at W.first_window W.due_window S.window_in_range S.in_range total all_fit edges_fit window_row overlaid next_fields background_block background_row plan codes fill_by_word fill_to segment segments_to row_cells top_block first_fields window_start start_from Rows.row Rows.row_call
computed = (refl, refl, refl, refl)

-- addresses clear of a span, by a test
clear : Span → List ℕ → Bool
clear s [] = true
clear s (a ∷ l) = not (inside s (2 * (a / 2))) && clear s l

clear_of : (s : Span) (l : List ℕ) → clear s l ≡ true → ClearOf s l
unfolding clear
clear_of s [] h a x = elim x [ ]
clear_of s (b ∷ l) h a here = not-true _ (both (not (inside s (2 * (b / 2)))) (clear s l) h).0
clear_of s (b ∷ l) h a (there i) = clear_of s l (both (not (inside s (2 * (b / 2)))) (clear s l) h).1 a i

apart : clear (spans 22 supervisor) (2 ∷ 4 ∷ 6 ∷ 8 ∷ 10 ∷ 12 ∷ 14 ∷ 16 ∷ 18 ∷ 20 ∷ []) ≡ true
unfolding spans clear
apart = refl

-- with the supervisor's span from 22 on, the condition is met
pub met : gets forecaster (in_turn (spans 22) memory states (actions 22)) ≡ in_turn (spans 22) memory states (alone forecaster (actions 22))
unfolding in_turns
met =
    two-desks.from_turns (spans 22) memory states (actions 22) forecaster
    (subst (ClearOf (spans 22 supervisor)) (sym computed.0) (clear_of (spans 22 supervisor) _ apart))

-- from 20 on it is not, and the forecaster does not get what it would get alone
pub needed : gets forecaster (in_turn (spans 20) memory states (actions 20)) ≡ in_turn (spans 20) memory states (alone forecaster (actions 20)) → ⊥
unfolding in_turns by_itself
needed e =
    let n : ◌≡◌ {A = ℕ} 12 10 = ap length (sym computed.2 ∙ ap reads e ∙ computed.3) in
    omega arith
