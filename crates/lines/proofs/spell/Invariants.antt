-- The digits of n are those of the rest that still stand before i, then the text from i on.
use Rattle.std.proofs.Common.{◌≡◌, ◌++◌, length, drop}
use Rattle.lines.specs.Lines.{digits}
use Rattle.lines.proofs.spell.Given as goal

abbrev pub invariant-loop-i : goal.invariant-loop-i
invariant-loop-i l = digits l.base (length l.initial.text) l.n ≡ digits l.base l.i l.rest ++ drop l.i l.text
