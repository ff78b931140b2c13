-- What the settings sheet, a start and a row leave in the slices of numbers that they were lent, and their status: 0 where the call is
-- accepted, else the number of document 01's refusal.
use Rattle.std.specs.Prelude.{ℕ, List, Result, Ok, Err}
use Rattle.memory.specs.declared.Refusal.{Refusal}
use Rattle.settings.specs.declared.Sheet.{Sheet}
use Rattle.start.specs.declared.Started.{Started}
use Rattle.numbers.specs.Encode.{state_numbers}
use Rattle.row.specs.declared.DrawnRow.{DrawnRow}
use Rattle.answers.specs.AnswerNumbers.{sheet_numbers, one_number, row_numbers, with_refusal}

-- a status, and what stands in the answer
pub record Answered : Type 0 where
  pub status : ℕ
  pub answer : List ℕ

abbrev pub answered : ℕ → List ℕ → Answered
answered status answer = record { status = status; answer = answer }

-- a status, and what stands in the state and in the answer
pub record Stated : Type 0 where
  pub status : ℕ
  pub state : List ℕ
  pub answer : List ℕ

abbrev pub stated : ℕ → List ℕ → List ℕ → Stated
stated status state answer = record { status = status; state = state; answer = answer }

-- a status, and what stands in the state, in the row buffer and in the answer
pub record Drawn : Type 0 where
  pub status : ℕ
  pub state : List ℕ
  pub cells : List ℕ
  pub answer : List ℕ

abbrev pub drawn : ℕ → List ℕ → List ℕ → List ℕ → Drawn
drawn status state cells answer = record { status = status; state = state; cells = cells; answer = answer }

-- the settings sheet
abbrev pub after_sheet : List ℕ → Result Sheet Refusal → Answered
after_sheet answer (Ok t) = answered 0 (sheet_numbers t)
after_sheet answer (Err r) = answered r.number (with_refusal r answer)

-- a start
abbrev pub after_start : List ℕ → List ℕ → Result Started Refusal → Stated
after_start state answer (Ok s) = stated 0 (state_numbers s.state) (one_number s.words)
after_start state answer (Err r) = stated r.number state (with_refusal r answer)

-- a row; the row buffer is document 01's, of any length
abbrev pub row_answered : List ℕ → List ℕ → List ℕ → Result DrawnRow Refusal → Drawn
row_answered state answer cells (Ok d) = drawn 0 (state_numbers d.next) cells (row_numbers d)
row_answered state answer cells (Err r) = drawn r.number state cells (with_refusal r answer)
