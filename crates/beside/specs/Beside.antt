-- Document 02, "Soft scroll of the background": "When the shift is not 0 the row beside the cut comes in a second row buffer under the
-- same rules". Up, it is the row that enters below the frame; down, the row that enters above it.
use Rattle.std.specs.Prelude.{ℕ, ◌+◌, List, ℤ, pos, length, eqb, Result, Ok, Err, Option, Some, None}
use Rattle.std.specs.Int.Signed.{lt_z}
use Rattle.memory.specs.Word.{when◌then◌else◌}
use Rattle.memory.specs.Reading.{fault, refusal}
use Rattle.memory.specs.declared.Refusal.{Refusal}
use Rattle.settings.specs.declared.PointerWords.{PointerWords}
use Rattle.settings.specs.declared.Settings.{Settings}
use Rattle.state.specs.declared.Fields.{Fields}
use Rattle.state.specs.declared.State.{State}
use Rattle.state.specs.State.{state_of}
use Rattle.start.specs.Start.{start_call}
use Rattle.start.specs.declared.Started.{Started}
use Rattle.row.specs.Row.{Called, row_call}
use Rattle.row.specs.declared.DrawnRow.{DrawnRow}
use Rattle.beside.specs.declared.BesideRow.{BesideRow}

-- a row's answer, n words having been read for it before. "Its refusal and the latch it leaves are no part of the frame's": the answer
-- has no next state.
abbrev pub told : ℕ → Result DrawnRow Refusal → Result (Option BesideRow) Refusal
told n (Ok d) = Ok (Some (record { number = d.number; lines = d.lines; format = d.format; words = n + d.words }))
told n (Err r) = Err r

-- an answer, and what the second row buffer then holds
pub record BesideCalled : Type 0 where
  pub answer : Result (Option BesideRow) Refusal
  pub buffer : List ℕ

abbrev pub beside_called : Result (Option BesideRow) Refusal → List ℕ → BesideCalled
beside_called answer buffer = record { answer = answer; buffer = buffer }

abbrev pub told_call : ℕ → Called → BesideCalled
told_call n c = beside_called (told n c.answer) c.buffer

-- "up, the one after the frame's last, given one line"
abbrev pub with_one_line : Fields → Fields
with_one_line f = record {
  row = f.row;
  left = 1;
  cursor = f.cursor;
  fill = f.fill;
  format = f.format;
  next = f.next;
  window = f.window;
}

unfoldable pub row_below : Settings → List ℕ → State → List ℕ → BesideCalled
row_below σ m last buffer = told_call 0 (row_call σ m (state_of last.latch (with_one_line last.fields)) buffer)

-- "down, the soft list's first, row 0 of a start there from the start latch"
unfoldable pub with_top : Settings → PointerWords → Settings
with_top σ top = record {
  linear = σ.linear;
  hidden = σ.hidden;
  interlace = σ.interlace;
  cursor = σ.cursor;
  flag = σ.flag;
  top = top;
  tow = σ.tow;
  vsw = σ.vsw;
  vsd = σ.vsd;
  val = σ.val;
  vtot = σ.vtot;
  hsync = σ.hsync;
  hsd = σ.hsd;
  htc = σ.htc;
  htd = σ.htd;
  edition = σ.edition;
}

-- its count is "every word read", the start's and the row's
abbrev pub after_start : Settings → List ℕ → List ℕ → Result Started Refusal → BesideCalled
after_start σ m buffer (Ok s) = told_call s.words (row_call σ m s.state buffer)
after_start σ m buffer (Err r) = beside_called (Err r) buffer

-- Check 1 comes before the start's, as in every call with a row buffer.
unfoldable pub row_above : Settings → List ℕ → ℕ → List ℕ → BesideCalled
row_above σ m latch buffer =
    when eqb (length buffer) 132
    then after_start σ m buffer (start_call latch σ m)
    else beside_called (Err (refusal 0 (fault 1))) buffer

-- "positive up and negative down"
unfoldable pub beside_call : Settings → List ℕ → ℤ → PointerWords → ℕ → State → List ℕ → BesideCalled
beside_call σ m shift soft latch last buffer =
    when lt_z (pos 0) shift then row_below σ m last buffer
    else when lt_z shift (pos 0) then row_above (with_top σ soft) m latch buffer
    else beside_called (Ok None) buffer
