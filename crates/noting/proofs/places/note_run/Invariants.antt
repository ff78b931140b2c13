use mathlib.Core.Path.{◌≡◌}
use mathlib.Core.Bool.{true}
use lib.Seq.{sets}
use Rattle.noting.specs.Noting.{in_turn}
use Rattle.noting.proofs.PlaceLaws.{left_at}
use Rattle.noting.proofs.places.note_run.Given as goal

abbrev pub invariant-loop-i : goal.invariant-loop-i
invariant-loop-i l = sets l.initial.list l.at (in_turn true l.n l.a) ≡ sets l.list l.i (left_at l.n l.a l.at l.i)
