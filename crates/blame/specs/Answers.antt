-- What the functions of this crate give, as what the rules give: no rules of their own.
use Rattle.std.specs.Prelude.{Result, Ok, Err}
use Rattle.memory.specs.Reading.{Outcome, given, refused}
use Rattle.memory.specs.declared.Fault.{Fault}
use Rattle.state.specs.declared.State.{State}
use Rattle.row.specs.Row.{Row}
use Rattle.blame.specs.Blame.{next_state}

-- a row's outcome without its words and cells
abbrev pub walked : Outcome Row → Result State Fault
walked (given n r) = Ok (next_state r)
walked (refused x) = Err x
