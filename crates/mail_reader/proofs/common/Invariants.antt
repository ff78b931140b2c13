use mathlib.Core.Path.{◌≡◌}
use Prim.Native.Nat.{◌+◌}
use lib.ListN.{drop}
use Rattle.mail_reader.specs.Reader.{common}
use Rattle.mail_reader.proofs.common.Given as goal

abbrev pub invariant-loop-i : goal.invariant-loop-i
invariant-loop-i l = common l.fixed l.text ≡ l.i + common (drop l.i l.fixed) (drop l.i l.text)
