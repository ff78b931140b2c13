-- The lines of a bus report, as bytes: plain words with decimal numbers.
use Rattle.std.specs.Prelude.{ℕ, List, ◌++◌}
use Rattle.bus.specs.declared.BusRow.{BusRow}
use Rattle.bus.specs.declared.Figures.{Figures}
use Rattle.bus.specs.declared.Totals.{Totals}
use Rattle.lines.specs.Lines.{text, decimal}

-- "row 0: words 19, bursts 3, clocks released at least 480"
unfoldable pub row_line : BusRow → Figures → List ℕ
row_line h f =
    text "row " ++ decimal h.row ++ text ": words " ++ decimal h.words ++ text ", bursts " ++ decimal f.bursts
    ++ text ", clocks released at least " ++ decimal f.released ++ text "\n"

-- "all rows: words 22, bursts 4, clocks released at least 480"
unfoldable pub total_line : Totals → List ℕ
total_line t =
    text "all rows: words " ++ decimal t.words ++ text ", bursts " ++ decimal t.bursts
    ++ text ", clocks released at least " ++ decimal t.released ++ text "\n"

-- "largest: words 19, screen 0, row 0"
unfoldable pub largest_line : Totals → List ℕ
largest_line t =
    text "largest: words " ++ decimal t.largest ++ text ", screen " ++ decimal t.screen ++ text ", row " ++ decimal t.row ++ text "\n"
