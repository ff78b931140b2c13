use mathlib.Core.Path.{◌≡◌}
use Rattle.blame.specs.declared.Place.TheVariants.{Register}
use Rattle.blame.specs.Blame.{rows}
use Rattle.blame.proofs.walk_rows.Given as goal

abbrev pub invariant-loop-state : goal.invariant-loop-state
invariant-loop-state l = rows l.settings l.mem Register l.initial.state ≡ rows l.settings l.mem l.led l.state

abbrev pub decreases-loop-state : goal.decreases-loop-state
decreases-loop-state l = l.state.fields.left
