-- Each call writes its piece after the ones before, so the pieces are those of the two lines, one after the other.
use mathlib.Core.Path.{◌∙◌}
use mathlib.Core.List.{List, ◌++◌}
use Prim.Native.Nat.{ℕ}
use Rattle.lines.specs.Lines.{text, decimal}
use Rattle.bus_text.specs.BusLines.{total_line, largest_line}
use Rattle.bus_text.proofs.ReportLaws.{two-lines}
use Rattle.bus_text.proofs.bus_lines.total_lines.Goals as goal

pub returns : goal.returns
unfolding total_line largest_line
returns c =
    let e = c.put_end.ensures in
    let t = c.args.t in
    let words : List ℕ = text "all rows: words " ++ decimal t.words in
    let sums : List ℕ = words ++ text ", bursts " ++ decimal t.bursts ++ text ", clocks released at least " ++ decimal t.released in
    let first = c.put_number-at.ensures.1 in
    let second = c.put_number-at-2.ensures.1 in
    let third = c.put_number-at-3.ensures.1 in
    let fourth = c.put_number-at-4.ensures.1 in (
      e.0,
      e.1,
      e.2
          ∙ rw (c.put_number-at-6.ensures.1, c.put_number-at-5.ensures.1, fourth, third, second, first)
          (two-lines sums (decimal t.largest) (decimal t.screen) (decimal t.row)),
    )
