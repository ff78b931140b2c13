-- The row beside the cut with a list of the addresses read: it is a row "under the same rules" (document 02), so it is lent one too.
use Rattle.std.specs.Prelude.{ℕ, List, ℤ, pos, length, eqb, Option, None, Result, Ok, Err}
use Rattle.std.specs.Int.Signed.{lt_z}
use Rattle.memory.specs.Word.{when◌then◌else◌}
use Rattle.memory.specs.Reading.{◌>>=◌, fault, refusal}
use Rattle.memory.specs.declared.Refusal.{Refusal}
use Rattle.settings.specs.declared.PointerWords.{PointerWords}
use Rattle.settings.specs.declared.Settings.{Settings}
use Rattle.state.specs.declared.State.{State}
use Rattle.state.specs.State.{state_of}
use Rattle.start.specs.Start.{start_from}
use Rattle.row.specs.Row.{row}
use Rattle.beside.specs.Beside.{BesideCalled, told, with_one_line, with_top, row_above}
use Rattle.beside.specs.declared.BesideRow.{BesideRow}
use Rattle.listed.specs.Listed.{list_after, RowListed, row_listed}

-- an answer, and what the second row buffer and the list then hold
pub record BesideListed : Type 0 where
  pub answer : Result (Option BesideRow) Refusal
  pub buffer : List ℕ
  pub list : List ℕ

abbrev pub beside_with : Result (Option BesideRow) Refusal → List ℕ → List ℕ → BesideListed
beside_with answer buffer list = record { answer = answer; buffer = buffer; list = list }

abbrev pub told_listed : RowListed → BesideListed
told_listed c = beside_with (told 0 c.answer) c.buffer c.list

abbrev pub above_with : BesideCalled → List ℕ → BesideListed
above_with c list = beside_with c.answer c.buffer list

-- "up, the one after the frame's last, given one line"
unfoldable pub below_listed : Settings → List ℕ → State → List ℕ → List ℕ → BesideListed
below_listed σ m last buffer list = told_listed (row_listed σ m (state_of last.latch (with_one_line last.fields)) buffer list)

-- "down, the soft list's first, row 0 of a start there from the start latch": the addresses of both, once neither is refused
unfoldable pub above_listed : Settings → List ℕ → ℕ → List ℕ → List ℕ → BesideListed
above_listed σ m latch buffer list =
    when eqb (length buffer) 132
    then (when eqb (length list) 12000
    then above_with (row_above σ m latch buffer) (list_after m (start_from latch σ >>= row σ) list)
    else beside_with (Err (refusal 0 (fault 25))) buffer list)
    else above_with (row_above σ m latch buffer) list

-- "positive up and negative down"
unfoldable pub beside_listed : Settings → List ℕ → ℤ → PointerWords → ℕ → State → List ℕ → List ℕ → BesideListed
beside_listed σ m shift soft latch last buffer list =
    when lt_z (pos 0) shift then below_listed σ m last buffer list
    else when lt_z shift (pos 0) then above_listed (with_top σ soft) m latch buffer list
    else beside_with (Ok None) buffer list
