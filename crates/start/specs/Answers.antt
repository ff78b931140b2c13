-- What the functions of this crate give, as what the rules give: no rules of their own.
use Rattle.std.specs.Prelude.{Result, Ok, Err}
use Rattle.memory.specs.declared.Fault.{Fault}
use Rattle.memory.specs.Reading.{Outcome, given, refused}
use Rattle.state.specs.declared.State.{State}
use Rattle.start.specs.declared.Started.{Started}

-- the answer of a start before its row is told, as an outcome
abbrev pub start_read : Result Started Fault → Outcome State
start_read (Ok s) = given s.words s.state
start_read (Err x) = refused x
