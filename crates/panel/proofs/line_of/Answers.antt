-- The place that `place_of` gives is what stands still; where there is one, `background_of` and `background_lines` give the rest.
use mir.Syntax.{w32}
use mir.ValLaws.{to_z-of_z}
use Rattle.panel.specs.Line.{line}
use Rattle.panel.proofs.line_of.Goals as goal

pub returns-in_default : goal.returns-in_default
unfolding line
returns-in_default c = rw (← c.place_of.ensures, c.in_default.is)

pub returns : goal.returns
unfolding line
returns c =
    let same = to_z-of_z w32 c.args.shift c.ranges.shift in
    let background = rw same at c.background_of-background.ensures in
    rw (← c.place_of.ensures, c.in-Some.is, ← background, rw same at c.background_lines.ensures)
