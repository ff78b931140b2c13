-- The numbers are the definition's.
use Rattle.bus.specs.Numbers.{totals_numbers}
use Rattle.memory.proofs.TestLaws.{yes-number}
use Rattle.bus.proofs.numbers.write_totals.Goals as goal

pub returns : goal.returns
unfolding totals_numbers
returns c = rw yes-number
