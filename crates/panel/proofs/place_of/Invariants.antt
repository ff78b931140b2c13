use mathlib.Core.Path.{◌≡◌}
use lib.ListN.{take, drop}
use Rattle.panel.specs.Line.{place}
use Rattle.panel.proofs.PlaceLaws.{later_by}
use Rattle.panel.proofs.place_of.Given as goal

abbrev pub invariant-loop-index : goal.invariant-loop-index
invariant-loop-index l = place (take l.rows l.heights) l.z ≡ later_by l.index (place (drop l.index l.first) l.rest)
