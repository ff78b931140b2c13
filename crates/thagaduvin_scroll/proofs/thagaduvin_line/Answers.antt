-- The line of a frame that a line can be asked of has numbers that fit.
use mathlib.Core.Path.{sym, ◌∙◌}
use mir.Syntax.{w32}
use mir.ValLaws.{to_z-of_z}
use Rattle.line_numbers.proofs.HeightLaws.{line-narrow}
use Rattle.thagaduvin_scroll.proofs.thagaduvin_line.Goals as goal

pub write_line-requires : goal.write_line-requires
write_line-requires c =
    let a = c.args in
    let asked = rw (to_z-of_z w32 a.shift c.ranges.shift) at c.is_asked.ensures in
    let given = rw (to_z-of_z w32 a.shift c.ranges.shift) at c.line_of-l.ensures in
    rw given (line-narrow a.shift a.above a.heights.now a.rows a.y (sym asked ∙ c.if-not-is_asked.false))
