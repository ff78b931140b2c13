-- Numbers at their places: totals that are written and read again.
use mathlib.Core.Path.{◌≡◌, refl}
use mathlib.Core.Bool.{Bool, true, false}
use lib.Dec.{eqb}
use Rattle.memory.specs.Word.{when◌then◌else◌}
use Rattle.bus.specs.declared.Totals.{Totals}
use Rattle.bus.specs.Numbers.{totals_at, totals_numbers}

yes-again : (b : Bool) → eqb (when b then 1 else 0) 1 ≡ b
yes-again true = refl
yes-again false = refl

-- totals that a call wrote are handed in as they were
pub totals-again : (t : Totals) → totals_at (totals_numbers t) ≡ t
unfolding totals_at totals_numbers
totals-again t = rw (yes-again t.any)
