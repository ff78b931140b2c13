use mathlib.Core.Path.{◌≡◌}
use Prim.Native.Nat.{◌≤◌}
use lib.ListN.{length}
use Rattle.std.proofs.Common.{Err}
use Rattle.mail_reader.specs.Reader.{next_cell, better}
use Rattle.mail_reader.proofs.next_cell.Given as goal

abbrev pub invariant-loop-marks : goal.invariant-loop-marks
invariant-loop-marks l =
    (l.reach ≤ 13) × (l.reach ≤ length l.text) × (next_cell 16 l.before l.text ≡ better (Err l.reach) (next_cell l.marks l.before l.text))
