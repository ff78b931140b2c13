-- What a start and a row with a list leave in the slices of numbers that they were lent, and their status: as without a list, and the list
-- besides.
use Rattle.std.specs.Prelude.{ℕ, List}
use Rattle.answers.specs.AfterCall.{Stated, after_start, Drawn, row_answered}
use Rattle.listed.specs.Listed.{StartListed, RowListed}

-- a status, and what stands in the state, in the list and in the answer
pub record StatedListed : Type 0 where
  pub status : ℕ
  pub state : List ℕ
  pub list : List ℕ
  pub answer : List ℕ

abbrev pub stated_listed : ℕ → List ℕ → List ℕ → List ℕ → StatedListed
stated_listed status state list answer = record { status = status; state = state; list = list; answer = answer }

-- a status, and what stands in the state, in the row buffer, in the list and in the answer
pub record DrawnListed : Type 0 where
  pub status : ℕ
  pub state : List ℕ
  pub cells : List ℕ
  pub list : List ℕ
  pub answer : List ℕ

abbrev pub drawn_listed : ℕ → List ℕ → List ℕ → List ℕ → List ℕ → DrawnListed
drawn_listed status state cells list answer = record { status = status; state = state; cells = cells; list = list; answer = answer }

-- a start's numbers, with its list
abbrev pub with_start : Stated → List ℕ → StatedListed
with_start s list = stated_listed s.status s.state list s.answer

abbrev pub after_start_listed : List ℕ → List ℕ → StartListed → StatedListed
after_start_listed state answer out = with_start (after_start state answer out.answer) out.list

-- a row's
abbrev pub with_row : Drawn → List ℕ → DrawnListed
with_row d list = drawn_listed d.status d.state d.cells list d.answer

abbrev pub after_row_listed : List ℕ → List ℕ → RowListed → DrawnListed
after_row_listed state answer out = with_row (row_answered state answer out.buffer out.answer) out.list
