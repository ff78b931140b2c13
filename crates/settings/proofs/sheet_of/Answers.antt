-- Each part of the sheet is its callee's.
use Rattle.settings.specs.Sheet.{sheet_of}
use Rattle.settings.proofs.sheet_of.Goals as goal

-- Each part of the sheet is its callee's.
pub returns : goal.returns
unfolding sheet_of
returns c =
    rw (
      c.timing_of-even.ensures,
      c.timing_of-odd.ensures,
      c.clocks_of-clocks.ensures,
      c.lines_for_rows.ensures,
      c.invoking_codes.ensures,
    )
