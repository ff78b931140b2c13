-- Each call writes its piece after the ones before, so the pieces are the line's, one after the other.
use mathlib.Core.Path.{◌∙◌}
use Rattle.bus_text.specs.BusLines.{row_line}
use Rattle.bus_text.proofs.bus_lines.row_line.Goals as goal

pub returns : goal.returns
unfolding row_line
returns c =
    let e = c.put_end.ensures in
    let first = c.put_number-at.ensures.1 in
    let second = c.put_number-at-2.ensures.1 in
    (e.0, e.1, e.2 ∙ rw (c.put_number-at-4.ensures.1, c.put_number-at-3.ensures.1, second, first))
