-- Document 02, "Two desks on one memory": "The addresses of the words read, in order, are wanted from a start and a row, in a lent list
-- of 12,000 places".
use Rattle.std.specs.Prelude.{ℕ, List, ◌++◌, length, drop, eqb, Result, Err}
use Rattle.memory.specs.Word.{when◌then◌else◌}
use Rattle.memory.specs.Reading.{Reading, Outcome, given, refused, fault, refusal, run, asked}
use Rattle.memory.specs.declared.Refusal.{Refusal}
use Rattle.settings.specs.declared.Settings.{Settings}
use Rattle.state.specs.declared.State.{State}
use Rattle.start.specs.Start.{start_from, start_call}
use Rattle.start.specs.declared.Started.{Started}
use Rattle.row.specs.Row.{Called, row, row_call}
use Rattle.row.specs.declared.DrawnRow.{DrawnRow}

-- the list with addresses from its first place on: "places past them stay"
unfoldable pub written : (addresses list : List ℕ) → List ℕ
written addresses list = addresses ++ drop (length addresses) list

-- "No refusal touches the list."
abbrev pub unless_refused : {A : Type 0} → Outcome A → (addresses list : List ℕ) → List ℕ
unless_refused (given n a) addresses list = written addresses list
unless_refused (refused x) addresses list = list

-- the list after a reading: "The addresses of the words read, in order"
abbrev pub list_after : {A : Type 0} → List ℕ → Reading A → List ℕ → List ℕ
list_after m p list = unless_refused (run m p) (asked m p) list

-- a start's answer, and what its list then holds
pub record StartListed : Type 0 where
  pub answer : Result Started Refusal
  pub list : List ℕ

abbrev pub start_with : Result Started Refusal → List ℕ → StartListed
start_with answer list = record { answer = answer; list = list }

-- Refusal 25: "another number of list places, just after 1", so first of all in a start, which has no 1
unfoldable pub start_listed : ℕ → Settings → List ℕ → List ℕ → StartListed
start_listed latch σ m list =
    when eqb (length list) 12000
    then start_with (start_call latch σ m) (list_after m (start_from latch σ) list)
    else start_with (Err (refusal 0 (fault 25))) list

-- a row's answer, and what its row buffer and its list then hold
pub record RowListed : Type 0 where
  pub answer : Result DrawnRow Refusal
  pub buffer : List ℕ
  pub list : List ℕ

abbrev pub row_with : Result DrawnRow Refusal → List ℕ → List ℕ → RowListed
row_with answer buffer list = record { answer = answer; buffer = buffer; list = list }

-- a row call's answer and buffer, with a list
abbrev pub called_with : Called → List ℕ → RowListed
called_with c list = row_with c.answer c.buffer list

-- 25 "just after 1"; 1 is the row call's
unfoldable pub row_listed : Settings → List ℕ → State → List ℕ → List ℕ → RowListed
row_listed σ m s buffer list =
    when eqb (length buffer) 132
    then (when eqb (length list) 12000
    then called_with (row_call σ m s buffer) (list_after m (row σ s) list)
    else row_with (Err (refusal s.fields.row (fault 25))) buffer list)
    else called_with (row_call σ m s buffer) list
