-- What the functions of this crate give, as what the rules give: no rules of their own.
use Rattle.std.specs.Prelude.{ℕ, Result, Ok, Err}
use Rattle.memory.specs.Reading.{Outcome, given, refused}
use Rattle.memory.specs.declared.Fault.{Fault}

-- the answer of `check_settings` as an outcome
abbrev pub settings_checked : ℕ → Result (Unit {0}) Fault → Outcome (Unit {0})
settings_checked n (Ok tt) = given n tt
settings_checked n (Err x) = refused x
