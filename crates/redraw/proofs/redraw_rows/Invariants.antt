-- A call is one of the eight.
use Rattle.std.proofs.Common.{◌<◌}
use Rattle.redraw.proofs.redraw_rows.Given as goal

abbrev pub invariant-loop : goal.invariant-loop
invariant-loop g l = l.call < 8
