-- What the functions of this crate give, as what the rules give: no rules of their own.
use Rattle.std.specs.Prelude.{ℕ, ◌≤◌, Result, Ok, Err}
use Rattle.memory.specs.Reading.{Outcome, given, refused}
use Rattle.memory.specs.declared.Fault.{Fault}
use Rattle.scroll.specs.declared.Offset.{Offset}

-- the answer of `first_lines` and of `edge_lines`; the words read are not told
abbrev pub lines_read : Outcome ℕ → Result ℕ Fault
lines_read (given n lines) = Ok lines
lines_read (refused x) = Err x

-- the lines and the phase that a scroll in range has
pub record Small (g : Offset) : Type 0 where
  pub lines : g.lines ≤ 31
  pub phase : g.phase ≤ 7
