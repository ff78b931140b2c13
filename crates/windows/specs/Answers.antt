-- What the functions of this crate give, as what the rules give: no rules of their own.
use Rattle.std.specs.Prelude.{◌≤◌, Option, Some, None, Result, Ok, Err}
use Rattle.memory.specs.declared.Fault.{Fault}
use Rattle.memory.specs.Reading.{Outcome, given, refused}
use Rattle.windows.specs.declared.WindowRead.{WindowRead}
use Rattle.windows.specs.declared.Window.{Window}

-- the answer of a window's reader as an outcome
abbrev pub window_read : Result WindowRead Fault → Outcome (Option Window)
window_read (Ok r) = given r.words r.window
window_read (Err x) = refused x

-- what check 3 gives, "as rows rise": a window's number is at most its first row, so at most its last
abbrev pub Numbered : Option Window → Type 0
Numbered None = Unit
Numbered (Some w) = w.block.number ≤ w.block.bottom
