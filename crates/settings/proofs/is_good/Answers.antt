-- The code makes the definition's four tests, in its order.
use Rattle.settings.specs.Good.{good}
use Rattle.settings.proofs.is_good.Goals as goal

-- The code makes the definition's four tests, in its order.
pub returns : goal.returns
unfolding good
returns c =
    rw (
      c.in_range.ensures,
      c.in_order.ensures,
      c.fits_mode.ensures,
      c.fits_edition.ensures,
    )
