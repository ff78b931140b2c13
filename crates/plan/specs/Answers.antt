-- What the functions of this crate give, as what the rules give: no rules of their own.
use Rattle.std.specs.Prelude.{ℕ, Bool, List, Result, Ok, Err}
use Rattle.memory.specs.Reading.{Outcome, given, refused}
use Rattle.memory.specs.declared.Fault.{Fault}
use Rattle.blocks.specs.RowBlock.{segments_of}
use Rattle.layout.specs.Answers.{overlay_of}
use Rattle.plan.specs.declared.PlanHead.{PlanHead}
use Rattle.plan.specs.Plan.{Plan}

-- a plan, from what `plan_row` gives and the words of the background's and the window's segments
abbrev pub plan_of : Bool → PlanHead → List ℕ → List ℕ → Plan
plan_of linear p bs os = record {
  lines = p.lines;
  format = p.format;
  segments = segments_of linear p.count bs;
  overlay = overlay_of linear p.overlay os;
  next = p.next;
}

-- the answer of `plan_row` as an outcome. What the words are past the segments counted, and after a refusal, is left free.
abbrev pub plan_answer : Bool → Result PlanHead Fault → List ℕ → List ℕ → Outcome Plan
plan_answer linear (Ok p) bs os = given p.words (plan_of linear p bs os)
plan_answer linear (Err x) bs os = refused x
