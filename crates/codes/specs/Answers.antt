-- What the functions of this crate give, with the cells that they leave, as what the rules give: no rules of their own.
use Rattle.std.specs.Prelude.{ℕ, ◌≤◌, List, take, Result, Ok, Err}
use Rattle.memory.specs.declared.Fault.{Fault}
use Rattle.memory.specs.Reading.{Outcome, given, refused}
use Rattle.codes.specs.declared.Pen.{Pen}
use Rattle.codes.specs.declared.Reached.{Reached}
use Rattle.codes.specs.Codes.{Drawing, drawing}

-- a row in the making, whose cells stand at the front of an array
abbrev pub so_far : Pen → List ℕ → Drawing
so_far p cs = drawing p (take p.column cs)

-- the answer of a function that draws, with the cells it leaves, as an outcome. What the array holds past the pen's column, and after a
-- refusal, is left free.
abbrev pub drawn : Result Reached Fault → List ℕ → Outcome Drawing
drawn (Ok r) cs = given r.words (so_far r.pen cs)
drawn (Err x) cs = refused x

-- drawing went up to a column at most, with no more words read than said
abbrev pub Within : ℕ → ℕ → Result Reached Fault → Type 0
Within end most (Ok r) = (r.pen.column ≤ end) × (r.words ≤ most)
Within end most (Err x) = Unit {0}
